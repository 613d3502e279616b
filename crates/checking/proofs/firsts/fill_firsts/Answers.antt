-- `checking::firsts::fill_firsts` meets its contract. The invariant: `at` counts the marks of the first s statements, and their entries are right.
use Rattle.checking.proofs.Counting.{counted_none, counted_small, counted_more, filled_none, filled_more}
use native.Mathlib.Omega.{arith}
use Rattle.checking.proofs.firsts.fill_firsts.Goals as goal

pub loop-s-init : goal.loop-s-init
loop-s-init c = (counted_none, filled_none)

pub overflow_add-at : goal.overflow_add-at
overflow_add-at c =
    omega (arith, counted_small c.requires.0 c.loop-s.invariant.0 c.statements-n.ensures c.loop-s-test.true c.mark_count-at.ensures)

pub loop-s-preserved : goal.loop-s-preserved
loop-s-preserved c =
    (counted_more c.requires.0 c.loop-s.invariant.0 c.statements-n.ensures c.loop-s-test.true c.mark_count-at.ensures, filled_more (omega (arith, c.loop-s-test.true, c.statements-n.ensures, c.requires.1, c.loop-s.auto.firsts)) c.loop-s.invariant.0.is c.loop-s.invariant.1)
