-- `judge::made::component_count` meets its contract: by the kind.
use borrow.Author.Rules.{rules}
use Rattle.judge.proofs.Components.{count_scalar, count_vector, count_none}
use Rattle.judge.proofs.made.component_count.Goals as goal

pub returns-in-Scalar : goal.returns-in-Scalar
returns-in-Scalar c = count_scalar _ _ c.kind_at.ensures (search rules)

pub returns-in-Vector : goal.returns-in-Vector
returns-in-Vector c =
    count_vector _ _ c.kind_at.ensures (search rules) c.first_word.ensures

pub returns-in_default : goal.returns-in_default
returns-in_default c =
    count_none _ _ c.kind_at.ensures (search rules) (search rules)
