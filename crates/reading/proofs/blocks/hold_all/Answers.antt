-- `reading::blocks::hold_all` meets its contract: block by block.
use mathlib.Core.Path.{refl}
use native.Mathlib.Omega.{arith}
use Rattle.reading.proofs.Counting.{length-counted}
use Rattle.reading.proofs.Holders.{none_passed, next_passed, all_passed}
use Rattle.reading.proofs.blocks.hold_all.Goals as goal

pub loop-b-init : goal.loop-b-init
loop-b-init c = none_passed _ _ _

pub hold_block-below-requires : goal.hold_block-below-requires
hold_block-below-requires c = c.loop-b-test.true

pub loop-b-preserved : goal.loop-b-preserved
loop-b-preserved c = next_passed _ _ _ c.loop-b.invariant c.hold_block-below.ensures refl

pub shape_of-seen : goal.shape_of-seen
shape_of-seen c = rw c.loop-b.invariant.words (length-counted _ _)

pub returns : goal.returns
returns c = all_passed _ _ _ _ c.loop-b.invariant (omega (arith, c.loop-b.auto)) c.loop-b-test.false
