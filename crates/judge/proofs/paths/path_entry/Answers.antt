-- `judge::paths::path_entry` meets its contract: by the kind.
use borrow.Author.Rules.{rules}
use Rattle.judge.proofs.PathSteps.{entry_variable, entry-index, entry_other}
use Rattle.judge.proofs.paths.path_entry.Goals as goal

pub returns-in-Ok-GlobalVariable : goal.returns-in-Ok-GlobalVariable
returns-in-Ok-GlobalVariable c = entry_variable _ _ _ _ _ c.expression-row.ensures (search rules)

pub returns-in-Ok-AccessIndex : goal.returns-in-Ok-AccessIndex
returns-in-Ok-AccessIndex c =
    entry-index _ _ _ _ _ c.expression-row.ensures c.expression_operand-base.ensures c.is_marked.ensures (search rules)

pub returns-in_default : goal.returns-in_default
returns-in_default c =
    entry_other _ _ _ _ _ c.expression-row.ensures (search rules) (search rules) (search rules) (search rules)

pub returns-in_default-2 : goal.returns-in_default-2
returns-in_default-2 c =
    entry_other _ _ _ _ _ c.expression-row.ensures (search rules) (search rules) (search rules) (search rules)
