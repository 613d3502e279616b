-- `reading::blocks::hold_all` meets its contract: block by block.
use Rattle.module.specs.Decode.{tab}
use Rattle.module.specs.Reading.{range_of}
use Rattle.module.specs.Tables.{starts_of}
use Rattle.reading.specs.Holding.{statements_of}
use Rattle.reading.proofs.Holders.{Passed}
use Rattle.reading.proofs.blocks.hold_all.Given as goal

abbrev pub invariant-loop-b : goal.invariant-loop-b
invariant-loop-b l = Passed (statements_of l.bytes l.t l.row) l.initial.seen l.seen l.below (tab l.b (range_of (starts_of l.t l.row) l.row.statements))
