-- `operands::tests::by_part` meets its contract: by the kind of its type, and then by its tests.
use mathlib.Core.Path.{refl}
use Rattle.judge.proofs.TypeKinds.{simple, not_simple}
use Rattle.operands.proofs.Vectors.{part_not, part_is}
use Rattle.operands.proofs.tests.by_part.Goals as goal

pub returns-in_default : goal.returns-in_default
returns-in_default c =
    part_not c.args.expression.now.row_of c.requires.kind_value c.type_of-own.ensures c.kind_at.ensures (not_simple _ c.in_default.not-Scalar c.in_default.not-Vector)

pub returns-then-first : goal.returns-then-first
returns-then-first c =
    part_is c.args.expression.now.row_of c.requires.kind_value c.type_of-own.ensures c.kind_at.ensures (simple c.in-Scalar.is) c.expression_operand-x.ensures c.expression_operand-y.ensures c.type_of.ensures c.is_alike-first.ensures c.type_of-2.ensures c.is_alike-second.ensures (rw c.if-first.true refl)

pub returns-else-first : goal.returns-else-first
returns-else-first c =
    part_is c.args.expression.now.row_of c.requires.kind_value c.type_of-own.ensures c.kind_at.ensures (simple c.in-Scalar.is) c.expression_operand-x.ensures c.expression_operand-y.ensures c.type_of.ensures c.is_alike-first.ensures c.type_of-2.ensures c.is_alike-second.ensures (rw c.if-first.false refl)
