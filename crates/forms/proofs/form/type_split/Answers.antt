-- `forms::form::type_split` meets its contract: by the kind.
use mathlib.Core.Path.{ap}
use mathlib.Core.Logic.{inl, inr}
use Rattle.module.specs.declared.kinds.TypeKind.TheVariants.{Vector, Matrix, Struct}
use Rattle.module.specs.KindNumbers.{type_number}
use Rattle.judge.proofs.TypeKinds.{is_not}
use Rattle.forms.proofs.Shapes.{parted_vector, parted_matrix, parted_struct, parted_none}
use Rattle.forms.proofs.form.type_split.Goals as goal

pub returns-in-Vector : goal.returns-in-Vector
returns-in-Vector c =
    elim c.in-Vector.is [
      | inl e ↦ parted_vector _ _ c.kind_at.ensures (ap type_number e) c.first_word.ensures
      | inr (inl e) ↦ parted_matrix _ _ c.kind_at.ensures (ap type_number e) c.first_word.ensures
      | inr (inr e) ↦ parted_struct _ _ c.kind_at.ensures (ap type_number e) c.first_word.ensures
    ]

pub returns-in_default : goal.returns-in_default
returns-in_default c =
    parted_none _ _ c.kind_at.ensures (is_not Vector c.in_default.not-Vector) (is_not Matrix c.in_default.not-Matrix) (is_not Struct c.in_default.not-Struct)
