-- The proof of the cycle of calls {count_entries, count_part}: a part's entries have parts that go less deep. Each return is one law about what was seen.
use Prim.Native.Nat.{◌*◌, ◌+◌, ◌-◌}
use Rattle.context_bytes.proofs.Counted.{Counting}
use Rattle.context_bytes.proofs.count.+count_entries_count_part.Given as goal

abbrev pub invariant-count_entries-loop : goal.invariant-count_entries-loop
invariant-count_entries-loop l = Counting l.bytes l.depth l.n l.left l.least (l.n - l.counter) l.sum

abbrev pub decreases-count_entries : goal.decreases-count_entries
decreases-count_entries l = 2 * l.depth + 1

abbrev pub decreases-count_part : goal.decreases-count_part
decreases-count_part l = 2 * l.depth
