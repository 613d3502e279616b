-- `checking::shape::mark_total` meets its contract. The invariant: `at` counts the marks of the first s statements.
use Rattle.checking.proofs.Counting.{counted_none, counted_small, counted_more, counted_all}
use native.Mathlib.Omega.{arith}
use Rattle.checking.proofs.shape.mark_total.Goals as goal

pub loop-s-init : goal.loop-s-init
loop-s-init c = counted_none

pub overflow_add-at : goal.overflow_add-at
overflow_add-at c =
    omega (arith, counted_small c.requires c.loop-s.invariant c.statements-n.ensures c.loop-s-test.true c.mark_count-at.ensures)

pub loop-s-preserved : goal.loop-s-preserved
loop-s-preserved c =
    counted_more c.requires c.loop-s.invariant c.statements-n.ensures c.loop-s-test.true c.mark_count-at.ensures

pub returns : goal.returns
returns c = counted_all c.requires c.loop-s.invariant c.statements-n.ensures c.loop-s-test.false
