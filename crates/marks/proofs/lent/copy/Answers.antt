-- `marks::lent::copy` meets its contract. Assumes nothing.
use native.Mathlib.Omega.{arith}
use Rattle.marks.proofs.Turns.{copy_turn, copy_done}
use Rattle.marks.proofs.Write.{write_none}
use Rattle.marks.proofs.lent.copy.Goals as goal

pub loop-k-init : goal.loop-k-init
loop-k-init c = write_none _ 0

pub loop-k-preserved : goal.loop-k-preserved
loop-k-preserved c = copy_turn _ _ _ _ _ c.requires c.loop-k-test.true c.loop-k.invariant

pub returns : goal.returns
returns c = copy_done _ _ _ _ c.loop-k.k c.requires (omega (arith, c.loop-k.auto.k-end, c.loop-k-test.false)) c.loop-k.invariant
