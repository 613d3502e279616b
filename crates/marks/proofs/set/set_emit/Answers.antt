-- `marks::set::set_emit` meets its contract. Assumes nothing.
use mathlib.Core.Path.{refl, ap}
use mathlib.Core.Bool.{not}
use Prim.Native.Nat.{ℕ}
use lib.Dec.{eqb}
use native.Mathlib.Omega.{arith}
use Rattle.marks.proofs.Turns.{still_long, emit_none, emit_turn, any-turn}
use Rattle.marks.proofs.Write.{slice_at}
use Rattle.marks.proofs.set.set_emit.Goals as goal

pub loop-k-init : goal.loop-k-init
loop-k-init c =
    ((emit_none _ _ _ _).0, (emit_none c.args.marks.now c.args.slots.now 0 c.args.from).1)

pub set_mark-requires : goal.set_mark-requires
set_mark-requires c = let l = still_long _ _ _ _ c.loop-k.invariant.0 in omega arith

pub loop-k-preserved : goal.loop-k-preserved
loop-k-preserved c =
    let slot = slice_at c.args.slots.now c.args.from c.args.n c.loop-k.k (omega arith) in
    let recorded = ap (λ (n : ℕ). not (eqb n 2)) slot in
    (emit_turn _ _ _ _ _ _ _ _ recorded c.loop-k.invariant.0 c.set_mark.ensures, any-turn c.args.marks.now _ 0 _ _ _ _ _ recorded c.loop-k.invariant.1 refl)

pub shape_of-marks : goal.shape_of-marks
shape_of-marks c = still_long _ _ _ _ c.loop-k.invariant.0
