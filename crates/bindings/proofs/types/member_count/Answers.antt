-- `bindings::types::member_count` meets its contract: by whether the type is a struct.
use native.Mathlib.Omega.{arith}
use mathlib.Core.Path.{refl, ◌∙◌}
use Rattle.module.specs.declared.kinds.TypeKind.TheVariants.{Struct}
use Rattle.context.proofs.TypeKinds.{kind_known, kind_other}
use Rattle.bindings.proofs.Rows.{count_struct, count_none}
use Rattle.bindings.proofs.types.member_count.Goals as goal

pub returns-in-Struct : goal.returns-in-Struct
returns-in-Struct c =
    c.first_word.ensures
    ∙ count_struct _ _ (kind_known c.type_kind.ensures Struct (omega arith) c.in-Struct.is) refl

pub returns-in_default : goal.returns-in_default
returns-in_default c =
    count_none _ _ refl (kind_other c.type_kind.ensures Struct (omega arith) c.in_default.not-Struct)
