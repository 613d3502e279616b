-- `turn` meets its contract: after k turns the first k roots are where they went.
use mathlib.Core.Path.{◌≡◌}
use lib.ListN.{length}
use Rattle.part.proofs.Slides.{turned_none, turned_more}
use native.Mathlib.Omega.{arith}
use Rattle.part.proofs.collect.turn.Goals as goal

pub loop-r-init : goal.loop-r-init
loop-r-init c = turned_none _ _

pub send-requires : goal.send-requires
send-requires c =
    rw (c.loop-r.invariant.later c.loop-r.r-index (omega arith)) (omega (arith, c.requires.1, c.requires.0 c.loop-r.r-index (omega (arith, c.loop-r.invariant.long))))

pub loop-r-preserved : goal.loop-r-preserved
loop-r-preserved c =
    turned_more c.loop-r.invariant (omega (arith, c.loop-r-test.true, c.loop-r.invariant.long)) c.send.ensures

pub shape_of-roots : goal.shape_of-roots
shape_of-roots c = c.loop-r.invariant.long

pub returns : goal.returns
returns c =
    let e : c.loop-r.r-index ≡ length c.args.roots.now = omega (arith, c.loop-r.invariant.long) in rw e at c.loop-r.invariant
