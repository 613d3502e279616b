-- The proof of the cycle of calls {covers_entries, covers_part}: a part's entries have parts that go less deep. Each return is one law about what was seen.
use Prim.Native.Nat.{◌*◌, ◌+◌, ◌-◌}
use Rattle.context_bytes.proofs.Covered.{Covering}
use Rattle.context_bytes.proofs.cover.+covers_entries_covers_part.Given as goal

abbrev pub invariant-covers_entries-loop : goal.invariant-covers_entries-loop
invariant-covers_entries-loop l = Covering l.cells l.bytes l.n l.depth l.base l.k l.left l.least (l.k - l.counter) l.m

abbrev pub decreases-covers_entries : goal.decreases-covers_entries
decreases-covers_entries l = 2 * l.depth + 1

abbrev pub decreases-covers_part : goal.decreases-covers_part
decreases-covers_part l = 2 * l.depth
