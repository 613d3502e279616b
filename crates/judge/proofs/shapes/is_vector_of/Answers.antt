-- `judge::shapes::is_vector_of` meets its contract: by the kind, and then the size.
use borrow.Author.Rules.{rules}
use Rattle.judge.proofs.ShapeRows.{vector_other, vector_size}
use Rattle.judge.proofs.shapes.is_vector_of.Goals as goal

pub returns-in-Vector : goal.returns-in-Vector
returns-in-Vector c =
    λ S p. vector_size _ S p _ c.kind_at.ensures _ (search rules) c.first_word.ensures

pub returns-in_default : goal.returns-in_default
returns-in_default c =
    λ S p. vector_other _ S p _ c.kind_at.ensures _ (search rules)
