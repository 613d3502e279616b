-- `operands::tests::any_vector` meets its contract. The invariant: the first i are no vectors.
use Rattle.operands.specs.Rows.{operands_in}
use Rattle.module.specs.declared.kinds.TypeKind.TheVariants.{Vector}
use Rattle.judge.proofs.TypeKinds.{equal, unequal}
use Rattle.operands.proofs.Vectors.{no_vector_all, vector_found, no_vector_next}
use native.Mathlib.Omega.{arith}
use Rattle.operands.proofs.tests.any_vector.Goals as goal

pub returns-then-eq : goal.returns-then-eq
returns-then-eq c =
    vector_found _ (operands_in c.args.operands.now) _ c.requires c.operand-i-end.ensures c.loop-i-test.true c.expression_operand-component.ensures c.type_of.ensures c.kind_at.ensures (equal c.kind_at.result Vector c.eq.ensures c.if-eq.true)

pub loop-i-preserved : goal.loop-i-preserved
loop-i-preserved c =
    no_vector_next _ (operands_in c.args.operands.now) _ c.requires c.operand-i-end.ensures c.loop-i-test.true c.expression_operand-component.ensures c.type_of.ensures c.kind_at.ensures (unequal c.kind_at.result Vector c.eq.ensures c.if-eq.false) c.loop-i.invariant

pub returns : goal.returns
returns c =
    no_vector_all _ (operands_in c.args.operands.now) c.operand-i-end.ensures (omega arith) c.loop-i.invariant
