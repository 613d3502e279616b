-- `memory::want::piece` meets its contract. Assumes nothing.
use Prim.Native.Nat.{◌+◌, ◌-◌}
use mathlib.Core.Path.{◌≡◌, refl}
use Rattle.memory.proofs.Asks.{wrap_start, wrap_more, pieced}
use Rattle.memory.proofs.Cuts.{cut-at, cut-all}
use native.Mathlib.Omega.{arith}
use Rattle.memory.proofs.want.piece.Goals as goal

pub loop-i-init : goal.loop-i-init
loop-i-init c = wrap_start _ _ _ _ c.requires.good c.reach-m.ensures.0 refl

pub loop-i-preserved : goal.loop-i-preserved
loop-i-preserved c = wrap_more _ _ _ (cut-at _ _ _ c.loop-i-test.true) c.loop-i.invariant c.make-m.ensures

pub returns : goal.returns
returns c =
    let all : c.loop-i.i-index ≡ (8 + c.args.w.up) - 8 = cut-all c.args.w.path 8 _ (omega arith) c.loop-i.auto.i-index-end c.loop-i-test.false in
    pieced c.args.w _ _ _ c.loop-i.invariant (omega (arith, all)) c.requires.n_bound.1.1 c.reach-m.ensures.1
