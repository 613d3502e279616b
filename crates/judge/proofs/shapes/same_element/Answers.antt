-- `judge::shapes::same_element` meets its contract: by the kind.
use borrow.Author.Rules.{rules}
use mathlib.Core.Path.{◌∙◌}
use Rattle.module.specs.declared.kinds.TypeKind.TheVariants.{Scalar}
use Rattle.judge.proofs.TypeKinds.{test}
use Rattle.judge.proofs.ShapeRows.{element-scalar, element-vector, element-array, element-none}
use Rattle.judge.proofs.shapes.same_element.Goals as goal

pub returns-in-Vector : goal.returns-in-Vector
returns-in-Vector c =
    λ S p. test c.kind_at-in-Vector.result Scalar c.eq.ensures ∙ element-scalar _ S p _ c.kind_at.ensures _ c.kind_at-in-Vector.ensures (search rules)

pub returns-in-Matrix : goal.returns-in-Matrix
returns-in-Matrix c =
    λ S p. element-vector _ S p _ c.kind_at.ensures _ (search rules) c.second_word.ensures (c.is_vector_of.ensures S p)

pub returns-in-Array : goal.returns-in-Array
returns-in-Array c =
    λ S p. element-array _ S p _ c.kind_at.ensures _ c.requires.shapes c.requires.a_in_bounds c.requires.b_in_bounds (search rules) c.first_word.ensures c.is_alike.ensures

pub returns-in_default : goal.returns-in_default
returns-in_default c =
    λ S p. element-none _ S p _ c.kind_at.ensures _ (search rules) (search rules) (search rules)
