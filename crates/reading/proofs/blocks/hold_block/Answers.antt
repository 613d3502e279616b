-- `reading::blocks::hold_block` meets its contract: statement by statement.
use mathlib.Core.Path.{refl}
use native.Mathlib.Omega.{arith}
use Rattle.reading.proofs.Counting.{no_statement, next_statement, all_statements, by_words, length-counted}
use Rattle.reading.proofs.blocks.hold_block.Goals as goal

pub loop-i-init : goal.loop-i-init
loop-i-init c = no_statement _ _ _ _

pub loop-i-preserved : goal.loop-i-preserved
loop-i-preserved c = next_statement _ _ _ c.loop-i.invariant c.hold_at-below.ensures refl

pub shape_of-seen : goal.shape_of-seen
shape_of-seen c = rw c.loop-i.invariant.words (length-counted _ _)

pub returns : goal.returns
returns c =
    by_words (all_statements _ _ _ _ _ c.loop-i.invariant (omega (arith, c.loop-i.auto)) c.loop-i-test.false c.block_range-range.ensures)
