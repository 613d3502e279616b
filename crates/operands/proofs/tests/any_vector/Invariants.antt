-- `operands::tests::any_vector` meets its contract. The invariant: the first i are no vectors.
use Rattle.operands.specs.Rows.{scope_under, operands_in}
use Rattle.operands.proofs.Vectors.{NoVector}
use Rattle.operands.proofs.tests.any_vector.Given as goal

abbrev pub invariant-loop-i : goal.invariant-loop-i
invariant-loop-i l = NoVector (scope_under l.operands) (operands_in l.operands) l.i
