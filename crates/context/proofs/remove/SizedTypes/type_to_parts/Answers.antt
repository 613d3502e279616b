-- `SizedTypes::type_to_parts` meets its contract: by the kind of the type.
use Rattle.context.proofs.Types.{vector_size, matrix_size, struct_size}
use Rattle.context.proofs.Taking.{vector_made, matrix_made, struct_made, other_made}
use native.Mathlib.Omega.{arith}
use mathlib.Core.Path.{refl}
use Rattle.module.specs.declared.kinds.TypeKind.TheVariants.{Vector, Matrix, Struct}
use Rattle.context.proofs.TypeKinds.{kind_known, kind_other}
use Rattle.context.proofs.remove.SizedTypes.type_to_parts.Goals as goal

pub each-requires : goal.each-requires
each-requires c =
    record { good = c.requires.good; room = (omega (arith, vector_size _ _ c.args.self.now.all_sized (kind_known c.type_kind.ensures Vector (omega arith) c.in-Vector.is) refl, c.type_word-size.ensures, c.requires.room), omega (arith, c.requires.good.base)) }

pub returns-in-Vector : goal.returns-in-Vector
returns-in-Vector c =
    vector_made _ _ c.args.self.now.all_sized (kind_known c.type_kind.ensures Vector (omega arith) c.in-Vector.is) refl c.type_word-size.ensures c.each.ensures

pub each-column-requires : goal.each-column-requires
each-column-requires c =
    record { good = c.requires.good; room = (omega (arith, matrix_size _ _ c.args.self.now.all_sized (kind_known c.type_kind.ensures Matrix (omega arith) c.in-Matrix.is) refl, c.type_word-rows.ensures, c.requires.room), omega (arith, c.requires.good.base)) }

pub each-requires-in-Matrix : goal.each-requires-in-Matrix
each-requires-in-Matrix c =
    record { good = c.each-column.ensures.kept.good; room = (omega (arith, matrix_size _ _ c.args.self.now.all_sized (kind_known c.type_kind.ensures Matrix (omega arith) c.in-Matrix.is) refl, c.type_word-columns.ensures, c.type_word-rows.ensures, c.requires.room, c.each-column.ensures.kept.long, c.each-column.ensures.cost), c.each-column.ensures.piece) }

pub returns-in-Matrix : goal.returns-in-Matrix
returns-in-Matrix c =
    matrix_made _ _ c.args.self.now.all_sized (kind_known c.type_kind.ensures Matrix (omega arith) c.in-Matrix.is) refl c.type_word-columns.ensures c.type_word-rows.ensures c.each-column.ensures c.each-in-Matrix.ensures

pub each-requires-in-Struct : goal.each-requires-in-Struct
each-requires-in-Struct c =
    record { good = c.requires.good; room = (omega (arith, struct_size _ _ c.args.self.now.all_sized (kind_known c.type_kind.ensures Struct (omega arith) c.in-Struct.is) refl, c.type_word-members.ensures, c.requires.room), omega (arith, c.requires.good.base)) }

pub returns-in-Struct : goal.returns-in-Struct
returns-in-Struct c =
    struct_made _ _ c.args.self.now.all_sized (kind_known c.type_kind.ensures Struct (omega arith) c.in-Struct.is) refl c.type_word-members.ensures c.each-in-Struct.ensures

pub returns-in_default : goal.returns-in_default
returns-in_default c =
    other_made _ _ c.requires.good refl
    (kind_other c.type_kind.ensures Vector (omega arith) c.in_default.not-Vector)
    (kind_other c.type_kind.ensures Matrix (omega arith) c.in_default.not-Matrix)
    (kind_other c.type_kind.ensures Struct (omega arith) c.in_default.not-Struct)
