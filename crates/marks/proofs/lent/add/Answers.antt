-- `marks::lent::add` meets its contract. Assumes nothing.
use mathlib.Core.Path.{refl}
use native.Mathlib.Omega.{arith}
use Rattle.walk.specs.Marks.{write_marks, add_marks}
use Rattle.marks.proofs.Turns.{still_long, add_turn, add_done}
use Rattle.marks.proofs.lent.add.Goals as goal

pub loop-k-init : goal.loop-k-init
unfolding add_marks write_marks
loop-k-init c = (refl)

pub overflow_add-at : goal.overflow_add-at
overflow_add-at c = let l = still_long _ _ _ 0 c.loop-k.invariant in omega arith

pub bounds-marks-at : goal.bounds-marks-at
bounds-marks-at c = let l = still_long _ _ _ 0 c.loop-k.invariant in omega arith

pub loop-k-preserved : goal.loop-k-preserved
loop-k-preserved c =
    let l = still_long _ _ _ 0 c.loop-k.invariant in
    (add_turn _ _ _ _ _ c.requires _ (omega arith) c.loop-k.invariant c.add_mark.ensures)

pub shape_of-part : goal.shape_of-part
shape_of-part c = still_long _ _ _ 0 c.loop-k.invariant

pub returns : goal.returns
returns c =
    let l = still_long _ _ _ 0 c.loop-k.invariant in
    add_done _ _ _ _ c.loop-k.k c.requires (omega arith) c.loop-k.invariant
