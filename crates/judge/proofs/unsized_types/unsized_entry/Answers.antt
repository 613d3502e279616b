-- `judge::unsized_types::unsized_entry` meets its contract: a pointer's, the type itself, or one of those that it is made of.
use mathlib.Core.Path.{◌∙◌}
use borrow.Author.Rules.{rules}
use Rattle.judge.proofs.Unsized.{entry_pointer, entry_itself, entry_some}
use Rattle.judge.proofs.unsized_types.unsized_entry.Goals as goal

pub returns-then-eq : goal.returns-then-eq
returns-then-eq c = entry_pointer _ _ c.kind_at.ensures (search rules)

pub returns-then-is_unsized : goal.returns-then-is_unsized
returns-then-is_unsized c =
    c.if-is_unsized.true ∙ entry_itself _ _ c.kind_at.ensures (search rules) c.is_unsized.ensures c.if-is_unsized.true

pub returns-else-is_unsized : goal.returns-else-is_unsized
returns-else-is_unsized c =
    entry_some _ _ c.kind_at.ensures (search rules) c.is_unsized.ensures c.if-is_unsized.false c.some_base.ensures
