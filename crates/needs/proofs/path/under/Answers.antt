-- `needs::path::under` meets its contract. The path from k on is around a (`Around`).
use mathlib.Core.Path.{refl}
use Rattle.needs.proofs.Steps.{around_start, around_more}
use native.Mathlib.Omega.{arith}
use Rattle.needs.proofs.path.under.Goals as goal

pub loop-k-init : goal.loop-k-init
loop-k-init c = around_start _ c.requires.good c.requires.a_bound.0

pub loop-k-preserved : goal.loop-k-preserved
loop-k-preserved c = around_more c.loop-k.invariant (omega (arith, c.loop-k-test.true)) refl c.make-m.ensures
