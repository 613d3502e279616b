-- `forms::form::type_member` meets its contract: a part that is there, by the kind.
use mathlib.Core.Path.{ap}
use Rattle.module.specs.declared.kinds.TypeKind.TheVariants.{Vector, Matrix, Struct}
use Rattle.module.specs.KindNumbers.{type_number}
use Rattle.judge.proofs.TypeKinds.{is_not}
use Rattle.forms.proofs.Shapes.{part_none, part_number, part_column, part_member, part_base, member_there, element_there}
use Rattle.forms.proofs.form.type_member.Goals as goal

pub returns-then-type_extent-i : goal.returns-then-type_extent-i
returns-then-type_extent-i c = part_none _ _ c.type_extent.ensures c.if-type_extent-i.true

pub returns-in-Vector : goal.returns-in-Vector
returns-in-Vector c =
    part_number _ _ c.kind_at.ensures c.type_extent.ensures c.if-type_extent-i.false (ap type_number c.in-Vector.is)

pub returns-in-Matrix : goal.returns-in-Matrix
returns-in-Matrix c =
    part_column _ _ c.kind_at.ensures c.type_extent.ensures c.if-type_extent-i.false (ap type_number c.in-Matrix.is) c.second_word.ensures

pub base_at-requires : goal.base_at-requires
base_at-requires c =
    member_there _ _ c.kind_at.ensures c.type_extent.ensures c.if-type_extent-i.false (ap type_number c.in-Struct.is)

pub returns-in-Struct : goal.returns-in-Struct
returns-in-Struct c =
    part_member _ _ c.kind_at.ensures c.type_extent.ensures c.if-type_extent-i.false c.args.types.now.lower (ap type_number c.in-Struct.is) c.base_at.ensures

pub base_at-requires-in_default : goal.base_at-requires-in_default
base_at-requires-in_default c =
    element_there _ _ c.kind_at.ensures c.type_extent.ensures c.if-type_extent-i.false (is_not Vector c.in_default.not-Vector) (is_not Matrix c.in_default.not-Matrix) (is_not Struct c.in_default.not-Struct)

pub returns-in_default : goal.returns-in_default
returns-in_default c =
    part_base _ _ c.kind_at.ensures c.type_extent.ensures c.if-type_extent-i.false c.args.types.now.lower (is_not Vector c.in_default.not-Vector) (is_not Matrix c.in_default.not-Matrix) (is_not Struct c.in_default.not-Struct) c.base_at-in_default.ensures
