-- `expression::add::add_expression` meets its contract, by the number of the expression, which falls. Its loop keeps what is left of the asks (`Left`). Assumes
-- nothing.
use Prim.Native.Nat.{◌-◌}
use lib.ListN.{length}
use Rattle.module.specs.Tables.{module_of}
use Rattle.walk.specs.Resolve.{expression_at}
use Rattle.walk.specs.Expression.{arm_asks}
use Rattle.memory.specs.Want.{asked}
use Rattle.expression.specs.Walks.{Left}
use Rattle.expression.proofs.Walking.{Began}
use Rattle.expression.proofs.add.+add_expression.Given as goal

abbrev pub invariant-loop-a : goal.invariant-loop-a
invariant-loop-a l = record {
  began : Began l.file.bytes l.file.t l.v.function.0 l.v.expression.0 l.v.at l.v.held l.fn.cells l.fn.slots l.w l.fn.began.visits l.fn.began.sum l.initial.cells l.initial.slots;
  left : Left l.file.bytes l.file.t l.v.function.0 l.v.expression.0 l.v.at l.v.held l.initial.cells l.initial.slots l.w l.initial.tally.visits l.j l.tally.visits l.tally.sum l.cells l.slots;
}

abbrev pub decreases-loop-a : goal.decreases-loop-a
decreases-loop-a l = length (arm_asks (expression_at (module_of l.file.bytes l.file.t) l.v.function.0 l.v.expression.0) (asked l.initial.cells l.initial.slots l.w)) - l.j

abbrev pub decreases-add_expression : goal.decreases-add_expression
decreases-add_expression l = l.v.now.expression.0
