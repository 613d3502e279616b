-- The proof of the cycle of calls {read_entries, read_part}: at each call fewer bytes are left.
use mathlib.Core.Path.{sym, ◌∙◌}
use native.Mathlib.Omega.{arith}
use Rattle.part.proofs.Pieces.{part-0, part-1, part-2}
use Rattle.request.proofs.Bytes.{tail_all}
use Rattle.request.proofs.Entries.{refuse, answer, kept_same, kept_on, pred_of, entries_none, entry_made, index_no_part, index_no_rest, part_behind}
use Rattle.request.proofs.Steps.{index_read, index_refused}
use Rattle.request.proofs.parts.+read_entries_read_part.Goals as goal

pub read_entries-returns-then-n-eq0 : goal.read_entries-returns-then-n-eq0
read_entries-returns-then-n-eq0 t c =
    answer c.requires.good 2 (omega arith) (tail_all c.args.bytes.now) (omega arith) (entries_none _ _ _ _ _ c.if-n-eq0.true ∙ rw (part-2 c.args.cells.now))

pub read_entries-returns-in_err-i : goal.read_entries-returns-in_err-i
read_entries-returns-in_err-i t c =
    rw c.from_residual.ensures (refuse (kept_same c.requires.good) (index_refused (omega arith) c.in_err-i.ensures _ 0))

pub read_entries-read_part-requires : goal.read_entries-read_part-requires
read_entries-read_part-requires t c =
    let x = index_read {n = c.args.n} (pred_of _ c.if-n-eq0.false) c.in_ok-i.ensures in
    (omega (arith, x.field, c.decreases), (c.requires.good, omega (arith, x.field, c.requires.room)))

pub read_entries-returns-in_err-p : goal.read_entries-returns-in_err-p
read_entries-returns-in_err-p t c =
    rw c.from_residual-in_err-p.ensures (refuse c.in_err-p.ensures.kept (index_no_part (index_read {n = c.args.n} (pred_of _ c.if-n-eq0.false) c.in_ok-i.ensures) 0 _ (sym c.in_err-p.ensures.is)))

pub read_entries-overflow_add-i : goal.read_entries-overflow_add-i
read_entries-overflow_add-i t c = omega (arith, (index_read {n = c.args.n} (pred_of _ c.if-n-eq0.false) c.in_ok-i.ensures))

pub read_entries-returns-in_err-r : goal.read_entries-returns-in_err-r
read_entries-returns-in_err-r t c =
    rw c.from_residual-in_err-r.ensures
    (refuse (kept_on c.in_ok-p.ensures.kept c.in_err-r.ensures.kept) (index_no_rest (index_read {n = c.args.n} (pred_of _ c.if-n-eq0.false) c.in_ok-i.ensures) 0 _ (sym c.in_ok-p.ensures.is) (sym c.in_err-r.ensures.is)))

pub read_entries-returns : goal.read_entries-returns
read_entries-returns t c =
    entry_made _ (index_read {n = c.args.n} (pred_of _ c.if-n-eq0.false) c.in_ok-i.ensures) c.in_ok-p.ensures c.in_ok-r.ensures c.make.ensures

pub read_part-returns-in-All : goal.read_part-returns-in-All
read_part-returns-in-All t c =
    let was = rw c.in-All.is at c.in_ok-code.ensures in
    answer c.requires.good 0 (omega arith) was.placed.1 (omega (arith, was.placed.0)) (was.is ∙ rw (part-0 c.args.cells.now))

pub read_part-returns-in-Exist : goal.read_part-returns-in-Exist
read_part-returns-in-Exist t c =
    let was = rw c.in-Exist.is at c.in_ok-code.ensures in
    answer c.requires.good 1 (omega arith) was.placed.1 (omega (arith, was.placed.0)) (was.is ∙ rw (part-1 c.args.cells.now))

pub read_part-returns-in-Entries : goal.read_part-returns-in-Entries
read_part-returns-in-Entries t c =
    let was = rw c.in-Entries.is at c.in_ok-code.ensures in
    part_behind was.is was.placed.0 was.placed.2 c.read_entries.ensures
