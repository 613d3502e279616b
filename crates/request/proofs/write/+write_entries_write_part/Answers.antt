-- The proof of the cycle of calls {write_entries, write_part}: the piece's number falls, and `write_entries` stands between. The loop's invariant says
-- that what is left, written, gives the whole.
use Rattle.part.proofs.Listing.{entry_seen, entry_on}
use Rattle.request.proofs.Writing.{Left, code_room, kind_room, count_room, entries_room, code_writes, count_writes, left_first, left_done, index_room, child_room, left_again}
use native.Mathlib.Omega.{arith}
use Rattle.std.proofs.Common.{rules}
use Rattle.request.proofs.write.+write_entries_write_part.Goals as goal

pub write_entries-loop-x-init : goal.write_entries-loop-x-init
write_entries-loop-x-init t c =
    let left = left_first {s = c.args.cells.now} {a = c.args.writer.now} c.requires.n_bound in search (rules, left)

pub write_entries-field-requires : goal.write_entries-field-requires
write_entries-field-requires t c = omega (arith, index_room c.loop-x.invariant.1 (entry_seen c.loop-x.invariant.0 c.in-Some.ensures.steps) c.requires.fits)

pub write_entries-write_part-requires : goal.write_entries-write_part-requires
write_entries-write_part-requires t c =
    let seen = entry_seen c.loop-x.invariant.0 c.in-Some.ensures.steps in
    (omega (arith, seen.child_low, c.loop-x.invariant.1.under, c.decreases), (c.requires.good, (omega (arith, seen.child_low, c.loop-x.invariant.1.low), child_room c.loop-x.invariant.1 seen c.requires.fits c.field_of.ensures c.field.ensures)))

pub write_entries-loop-x-preserved : goal.write_entries-loop-x-preserved
write_entries-loop-x-preserved t c =
    entry_on c.loop-x.invariant.0 c.in-Some.ensures.steps (λ m. Left c.args.cells.now c.args.writer.now c.args.n c.write_part.new.writer m) (left_again c.loop-x.invariant.1 (entry_seen c.loop-x.invariant.0 c.in-Some.ensures.steps) c.requires.fits c.field_of.ensures c.field.ensures c.write_part.ensures)

pub write_entries-returns : goal.write_entries-returns
write_entries-returns t c = left_done c.loop-x.invariant.1 c.in-None.ensures.steps.0

pub write_part-field-requires : goal.write_part-field-requires
write_part-field-requires t c = code_room c.args.cells.now c.args.n c.args.writer.now c.requires.fits (omega (arith, c.if-n-le-EXIST_PIECE.true))

pub write_part-returns-then-n-le-EXIST_PIECE : goal.write_part-returns-then-n-le-EXIST_PIECE
write_part-returns-then-n-le-EXIST_PIECE t c = code_writes _ (omega (arith, c.if-n-le-EXIST_PIECE.true)) c.field.ensures

pub write_part-field-requires-2 : goal.write_part-field-requires-2
write_part-field-requires-2 t c =
    omega (arith, kind_room c.args.cells.now c.args.n c.args.writer.now c.requires.fits (omega (arith, c.if-n-le-EXIST_PIECE.false)))

pub write_part-width-requires : goal.write_part-width-requires
write_part-width-requires t c = record { good = c.requires.good; n_bound = c.requires.n_bound }

pub write_part-field-requires-3 : goal.write_part-field-requires-3
write_part-field-requires-3 t c =
    omega (arith, count_room c.args.cells.now c.args.n c.args.writer.now c.requires.fits (omega (arith, c.if-n-le-EXIST_PIECE.false)) c.field-2.ensures)

pub write_part-write_entries-requires : goal.write_part-write_entries-requires
write_part-write_entries-requires t c =
    (omega (arith, c.decreases), (c.requires.good, (c.requires.n_bound, entries_room c.args.cells.now c.args.n c.args.writer.now c.requires.fits (omega (arith, c.if-n-le-EXIST_PIECE.false)) c.field-2.ensures c.width.ensures c.field_of.ensures c.field-3.ensures)))

pub write_part-returns : goal.write_part-returns
write_part-returns t c =
    count_writes c.args.cells.now c.args.n c.args.writer.now c.requires.fits (omega (arith, c.if-n-le-EXIST_PIECE.false)) c.field-2.ensures c.width.ensures c.field_of.ensures c.field-3.ensures c.write_entries.ensures
