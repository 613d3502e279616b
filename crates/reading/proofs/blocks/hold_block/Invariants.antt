-- `reading::blocks::hold_block` meets its contract: statement by statement.
use Rattle.module.specs.Blocks.{held_from}
use Rattle.reading.specs.Holding.{statements_of}
use Rattle.reading.proofs.Counting.{Counted}
use Rattle.reading.proofs.blocks.hold_block.Given as goal

abbrev pub invariant-loop-i : goal.invariant-loop-i
invariant-loop-i l = Counted l.b l.initial.seen l.seen l.below (held_from (statements_of l.bytes l.t l.row) l.range.first l.i)
