-- `reading::blocks::hold_at` meets its contract: block by block.
use lib.ListN.{get_or}
use Rattle.module.specs.Decode.{tab}
use Rattle.reading.specs.Holding.{field_of, fields_of}
use Rattle.reading.proofs.Counting.{Counted}
use Rattle.reading.proofs.blocks.hold_at.Given as goal

abbrev pub invariant-loop-i : goal.invariant-loop-i
invariant-loop-i l = Counted l.b l.initial.seen l.seen l.below (tab l.i (λ j. get_or (fields_of l.bytes l.t l.row l.s) (field_of l.h j) 0))
