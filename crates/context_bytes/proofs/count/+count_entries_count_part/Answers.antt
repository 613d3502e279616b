-- The proof of the cycle of calls {count_entries, count_part}: a part's entries have parts that go less deep. Each return is one law about what was seen.
use Prim.Native.Nat.{◌-◌}
use mathlib.Core.Path.{◌≡◌}
use native.Mathlib.Omega.{arith}
use Rattle.request.proofs.Entries.{pred_of}
use Rattle.request.proofs.Steps.{index_read, index_refused}
use Rattle.context_bytes.proofs.Counted.{counting_first, counting_stop, counting_no_part, counting_again, counting_done, count_malformed, count_all, count_exist, count_listed}
use Rattle.context_bytes.proofs.count.+count_entries_count_part.Goals as goal

pub count_entries-loop-init : goal.count_entries-loop-init
count_entries-loop-init t c = let e : c.args.n - 0 ≡ c.args.n = omega arith in rw e (counting_first _ _ _)

pub count_entries-returns-in_err-i : goal.count_entries-returns-in_err-i
count_entries-returns-in_err-i t c =
    rw c.from_residual.ensures (counting_stop c.loop.invariant (index_refused (omega arith) c.in_err-i.ensures _))

pub count_entries-returns-in_err-k : goal.count_entries-returns-in_err-k
count_entries-returns-in_err-k t c =
    rw c.from_residual-in_err-k.ensures (counting_no_part c.loop.invariant (index_read (pred_of _ (omega arith)) c.in_ok-i.ensures) c.in_err-k.ensures)

pub count_entries-overflow_add-least : goal.count_entries-overflow_add-least
count_entries-overflow_add-least t c = omega (arith, index_read {n = c.args.n - c.loop.counter} (pred_of _ (omega arith)) c.in_ok-i.ensures)

pub count_entries-loop-preserved : goal.count_entries-loop-preserved
count_entries-loop-preserved t c =
    counting_again c.loop.invariant (index_read (omega arith) c.in_ok-i.ensures) c.in_ok-k.ensures

pub count_entries-returns : goal.count_entries-returns
count_entries-returns t c = counting_done c.loop.invariant (omega arith)

pub count_part-returns-in_err-code : goal.count_part-returns-in_err-code
count_part-returns-in_err-code t c = rw c.from_residual.ensures (count_malformed c.in_err-code.ensures)

pub count_part-returns-in-All : goal.count_part-returns-in-All
count_part-returns-in-All t c = count_all (rw c.in-All.is at c.in_ok-code.ensures)

pub count_part-returns-in-Exist : goal.count_part-returns-in-Exist
count_part-returns-in-Exist t c = count_exist (rw c.in-Exist.is at c.in_ok-code.ensures)

pub count_part-returns-in-Entries : goal.count_part-returns-in-Entries
count_part-returns-in-Entries t c = count_listed (rw c.in-Entries.is at c.in_ok-code.ensures) c.count_entries.ensures
