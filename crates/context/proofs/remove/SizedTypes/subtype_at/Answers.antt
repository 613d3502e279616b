-- `SizedTypes::subtype_at` meets its contract: by whether the type is known, then by its kind.
use native.Mathlib.Omega.{arith}
use mathlib.Core.Path.{refl}
use Rattle.module.specs.declared.kinds.TypeKind.TheVariants.{Struct}
use Rattle.context.proofs.TypeKinds.{kind_known, kind_other}
use Rattle.context.proofs.Types.{struct_size}
use Rattle.context.proofs.Taking.{no_subtype, not_struct_subtype, gone_subtype, member_subtype}
use Rattle.context.proofs.remove.SizedTypes.subtype_at.Goals as goal

pub returns-in_default : goal.returns-in_default
returns-in_default c = no_subtype _ _ c.in_default.is

pub returns-then-type_word-i : goal.returns-then-type_word-i
returns-then-type_word-i c =
    gone_subtype _ _ c.in-Some.is (kind_known c.type_kind.ensures Struct (omega arith) c.in-Struct.is) refl c.type_word.ensures c.if-type_word-i.true

pub type_word-member-requires : goal.type_word-member-requires
type_word-member-requires c =
    let e = kind_known c.type_kind.ensures Struct (omega arith) c.in-Struct.is in
    omega (arith, struct_size _ _ c.args.self.now.all_sized e refl, c.type_word.ensures)

pub returns-else-type_word-i : goal.returns-else-type_word-i
returns-else-type_word-i c =
    member_subtype _ _ c.in-Some.is (kind_known c.type_kind.ensures Struct (omega arith) c.in-Struct.is) refl c.type_word.ensures c.if-type_word-i.false c.type_word-member.ensures

pub returns-in_default-type_kind : goal.returns-in_default-type_kind
returns-in_default-type_kind c =
    not_struct_subtype _ _ c.in-Some.is refl (kind_other c.type_kind.ensures Struct (omega arith) c.in_default-type_kind.not-Struct)
