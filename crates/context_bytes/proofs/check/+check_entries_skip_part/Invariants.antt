-- The proof of the cycle of calls {check_entries, skip_part}: a part's entries have parts that go less deep. Each return is one law about what was seen.
use Prim.Native.Nat.{◌*◌, ◌+◌, ◌-◌}
use Rattle.context_bytes.proofs.Checked.{Checking}
use Rattle.context_bytes.proofs.check.+check_entries_skip_part.Given as goal

abbrev pub invariant-check_entries-loop : goal.invariant-check_entries-loop
invariant-check_entries-loop l = Checking l.bytes l.depth l.limit l.n l.left l.least (l.n - l.counter) l.known

abbrev pub decreases-check_entries : goal.decreases-check_entries
decreases-check_entries l = 2 * l.depth + 1

abbrev pub decreases-skip_part : goal.decreases-skip_part
decreases-skip_part l = 2 * l.depth
