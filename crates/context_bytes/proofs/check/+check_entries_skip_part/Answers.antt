-- The proof of the cycle of calls {check_entries, skip_part}: a part's entries have parts that go less deep. Each return is one law about what was seen.
use Prim.Native.Nat.{◌-◌}
use mathlib.Core.Bool.{◌&&◌}
use mathlib.Core.Path.{◌≡◌, ◌∙◌}
use lib.Dec.{ltb}
use native.Mathlib.Omega.{arith}
use Rattle.request.proofs.Entries.{pred_of}
use Rattle.request.proofs.Steps.{index_read, index_refused}
use Rattle.context_bytes.proofs.Checked.{check_first, check_stop, check_no_part, check_again, check_done, part_refused, all_skipped, exist_skipped, entries_refused, entries_skipped}
use Rattle.context_bytes.proofs.check.+check_entries_skip_part.Goals as goal
use Rattle.context_bytes.proofs.check.+check_entries_skip_part.Goals.{check_entries-then-known, check_entries-else-known}

pub check_entries-loop-init : goal.check_entries-loop-init
check_entries-loop-init t c = let e : c.args.n - 0 ≡ c.args.n = omega arith in rw e (check_first _ _ _ _)

pub check_entries-returns-in_err-i : goal.check_entries-returns-in_err-i
check_entries-returns-in_err-i t c =
    rw c.from_residual.ensures (check_stop c.loop.invariant (index_refused (omega arith) c.in_err-i.ensures _))

pub check_entries-returns-in_err-end : goal.check_entries-returns-in_err-end
check_entries-returns-in_err-end t c =
    rw c.from_residual-in_err-end.ensures (check_no_part c.loop.invariant (index_read (pred_of _ (omega arith)) c.in_ok-i.ensures) c.in_err-end.ensures)

pub check_entries-overflow_add-least : goal.check_entries-overflow_add-least
check_entries-overflow_add-least t c = omega (arith, index_read {n = c.args.n - c.loop.counter} (pred_of _ (omega arith)) c.in_ok-i.ensures)

pub check_entries-loop-preserved : goal.check_entries-loop-preserved
check_entries-loop-preserved t c =
    let known : c.if-known.known ≡ c.loop.known && ltb c.in_ok-i.i c.args.limit =
    elim c.if-known.branch [
      | check_entries-then-known w ↦ rw w.if-known.true w.known-is
      | check_entries-else-known w ↦ rw w.if-known.false (w.known-is ∙ w.if-known.false)
    ] in
    check_again c.loop.invariant (index_read (omega arith) c.in_ok-i.ensures) c.in_ok-end.ensures known

pub check_entries-returns : goal.check_entries-returns
check_entries-returns t c = check_done c.loop.invariant (omega arith)

pub skip_part-returns-in_err-code : goal.skip_part-returns-in_err-code
skip_part-returns-in_err-code t c = rw c.from_residual.ensures (part_refused c.in_err-code.ensures)

pub skip_part-returns-in-All : goal.skip_part-returns-in-All
skip_part-returns-in-All t c = all_skipped (rw c.in-All.is at c.in_ok-code.ensures)

pub skip_part-returns-in-Exist : goal.skip_part-returns-in-Exist
skip_part-returns-in-Exist t c = exist_skipped (rw c.in-Exist.is at c.in_ok-code.ensures)

pub skip_part-returns-in_err-known-in-Entries : goal.skip_part-returns-in_err-known-in-Entries
skip_part-returns-in_err-known-in-Entries t c =
    rw c.from_residual-in_err-known-in-Entries.ensures
    (entries_refused (rw c.in-Entries.is at c.in_ok-code.ensures) c.in_err-known-in-Entries.ensures)

pub skip_part-returns-in_ok-known-in-Entries : goal.skip_part-returns-in_ok-known-in-Entries
skip_part-returns-in_ok-known-in-Entries t c = entries_skipped (rw c.in-Entries.is at c.in_ok-code.ensures) c.in_ok-known-in-Entries.ensures
