-- `reading::read::records` meets its contract: what is left of the records gives the answer for the whole.
use mathlib.Core.Path.{◌≡◌}
use Prim.Native.Nat.{◌-◌}
use lib.ListN.{length}
use Rattle.reading.proofs.Left.{Left}
use Rattle.reading.proofs.read.records.Given as goal

abbrev pub invariant-loop-at : goal.invariant-loop-at
invariant-loop-at l = Left l.bytes l.t l.room.seen.now l.c l.at × (length l.t ≡ length l.initial.t)

abbrev pub decreases-loop-at : goal.decreases-loop-at
decreases-loop-at l = length l.bytes - l.at
