-- The proof of the cycle of calls {covers_entries, covers_part}: a part's entries have parts that go less deep. Each return is one law about what was seen.
use Prim.Native.Nat.{◌-◌}
use mathlib.Core.Logic.{inl, inr}
use mathlib.Core.Path.{◌≡◌}
use native.Mathlib.Omega.{arith}
use Rattle.request.proofs.Entries.{pred_of}
use Rattle.request.proofs.Steps.{index_read, index_refused}
use Rattle.context_bytes.proofs.Covered.{cover_first, cover_stop, cover_other, cover_not, cover_again, cover_all, cover_more, cover_done, part_no, part_all, part_exist, part_more, part_listed}
use Rattle.context_bytes.proofs.cover.+covers_entries_covers_part.Goals as goal

pub covers_entries-loop-init : goal.covers_entries-loop-init
covers_entries-loop-init t c =
    let e : c.args.k - 0 ≡ c.args.k = omega arith in rw e (cover_first _ _ _ _ c.requires.n_bound.0)

pub covers_entries-returns-in_err-i : goal.covers_entries-returns-in_err-i
covers_entries-returns-in_err-i t c =
    rw c.from_residual.ensures (cover_stop c.loop.invariant (index_refused (omega arith) c.in_err-i.ensures _ _))

pub covers_entries-overflow_add-base : goal.covers_entries-overflow_add-base
covers_entries-overflow_add-base t c =
    omega (arith, index_read {n = c.args.k - c.loop.counter} (pred_of _ (omega arith)) c.in_ok-i.ensures, c.requires.n_bound.1)

pub covers_entries-returns-in_err-c : goal.covers_entries-returns-in_err-c
covers_entries-returns-in_err-c t c =
    rw c.from_residual-in_err-c.ensures (cover_other c.loop.invariant (index_read (pred_of _ (omega arith)) c.in_ok-i.ensures) c.in_err-c.ensures)

pub covers_entries-covers_part-requires : goal.covers_entries-covers_part-requires
covers_entries-covers_part-requires t c = (omega (arith, c.decreases), (c.requires.good, c.in_ok-c.ensures.placed.0))

pub covers_entries-returns-in_err-end : goal.covers_entries-returns-in_err-end
covers_entries-returns-in_err-end t c =
    rw c.from_residual-in_err-end.ensures
    (cover_not c.loop.invariant (index_read (pred_of _ (omega arith)) c.in_ok-i.ensures) c.in_ok-c.ensures c.in_err-end.ensures)

pub covers_entries-overflow_add-least : goal.covers_entries-overflow_add-least
covers_entries-overflow_add-least t c = omega (arith, index_read {n = c.args.k - c.loop.counter} (pred_of _ (omega arith)) c.in_ok-i.ensures)

pub covers_entries-loop-preserved : goal.covers_entries-loop-preserved
covers_entries-loop-preserved t c =
    cover_again c.loop.invariant (index_read (omega arith) c.in_ok-i.ensures) c.in_ok-c.ensures c.in_ok-end.ensures

pub covers_entries-returns-then-m-eq-ALL_PIECE : goal.covers_entries-returns-then-m-eq-ALL_PIECE
covers_entries-returns-then-m-eq-ALL_PIECE t c =
    elim c.then-m-eq-ALL_PIECE.either [
      | inl h ↦ cover_all c.loop.invariant (omega arith) h
      | inr h ↦ cover_more c.loop.invariant (omega arith) c.requires.good h.0 h.1
    ]

pub covers_entries-returns : goal.covers_entries-returns
covers_entries-returns t c = cover_done c.loop.invariant (omega arith) c.requires.good c.if-m-eq-ALL_PIECE.false (omega (arith, c.if-m-gt-EMPTY_PIECE.false))

pub covers_part-returns-in_err-code : goal.covers_part-returns-in_err-code
covers_part-returns-in_err-code t c = rw c.from_residual.ensures (part_no _ _ c.in_err-code.ensures)

pub covers_part-returns-in-All : goal.covers_part-returns-in-All
covers_part-returns-in-All t c = part_all _ _ (rw c.in-All.is at c.in_ok-code.ensures)

pub covers_part-returns-then-n-eq-EXIST_PIECE : goal.covers_part-returns-then-n-eq-EXIST_PIECE
covers_part-returns-then-n-eq-EXIST_PIECE t c = part_exist _ _ (rw c.in-Exist.is at c.in_ok-code.ensures) c.if-n-eq-EXIST_PIECE.true

pub covers_part-returns-else-n-eq-EXIST_PIECE : goal.covers_part-returns-else-n-eq-EXIST_PIECE
covers_part-returns-else-n-eq-EXIST_PIECE t c = part_more _ _ (rw c.in-Exist.is at c.in_ok-code.ensures) c.if-n-eq-EXIST_PIECE.false

pub covers_part-returns-in-Entries : goal.covers_part-returns-in-Entries
covers_part-returns-in-Entries t c = part_listed _ _ (rw c.in-Entries.is at c.in_ok-code.ensures) c.covers_entries.ensures
