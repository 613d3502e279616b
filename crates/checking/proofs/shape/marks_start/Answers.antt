-- `checking::shape::marks_start` meets its contract. The invariant: `at` counts the marks of the functions before g.
use Rattle.checking.proofs.Counting.{started_none, started_small, started_more}
use native.Mathlib.Omega.{arith}
use Rattle.checking.proofs.shape.marks_start.Goals as goal

pub loop-g-init : goal.loop-g-init
loop-g-init c = started_none

pub overflow_add-at : goal.overflow_add-at
overflow_add-at c =
    omega (arith, started_small c.requires c.loop-g.invariant c.loop-g-test.true c.mark_total-at.ensures)

pub loop-g-preserved : goal.loop-g-preserved
loop-g-preserved c = started_more c.requires c.loop-g.invariant c.loop-g-test.true c.mark_total-at.ensures
