-- `judge::rows::base_count` meets its contract: a struct's members, one base, or none.
use borrow.Author.Rules.{rules}
use Rattle.bindings.specs.Rows.{is_base}
use Rattle.judge.proofs.TypeRows.{count_members, count_one, count_none}
use Rattle.judge.proofs.rows.base_count.Goals as goal

pub returns-in-Struct : goal.returns-in-Struct
returns-in-Struct c =
    count_members _ _ c.kind_at.ensures (search rules) c.first_word.ensures

pub returns-in-Pointer : goal.returns-in-Pointer
unfolding is_base
returns-in-Pointer c = count_one _ _ c.kind_at.ensures (search rules)

pub returns-in_default : goal.returns-in_default
unfolding is_base
returns-in_default c =
    count_none _ _ c.kind_at.ensures (search rules) (search rules)
