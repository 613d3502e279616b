-- `pruner::totals::write_function` meets its contract: 0, or the total by its places.
use Rattle.pruner.proofs.Whole.{flag_there, starts_there, none_room, none_done, own_inside, records_small, total_stored, total-room, total-done}
use native.Mathlib.Omega.{arith}
use Rattle.pruner.proofs.totals.write_function.Goals as goal

pub bounds-flags-i : goal.bounds-flags-i
bounds-flags-i c = flag_there c.requires.has_totals.0 c.args.f.0 c.requires.has_totals.1

pub field-requires : goal.field-requires
field-requires c =
    none_room c.requires.has_totals.0 c.args.f.0 c.requires.has_totals.1 c.args.writer.now c.if-not-flags-i.true c.requires.fits

pub returns-then-not-flags-i : goal.returns-then-not-flags-i
returns-then-not-flags-i c =
    none_done c.requires.has_totals.0 c.args.f.0 c.requires.has_totals.1 c.args.writer.now c.if-not-flags-i.true c.field.ensures

pub range-requires : goal.range-requires
range-requires c = starts_there c.requires.has_totals.0 c.args.f.0 c.requires.has_totals.1

pub slice_bounds-marks-count : goal.slice_bounds-marks-count
slice_bounds-marks-count c = (own_inside c.requires.has_totals.0 c.args.f.0 c.requires.has_totals.1 c.records_of-records.ensures c.range.ensures.start c.range.ensures.end).0

pub slice_bounds-marks-start : goal.slice_bounds-marks-start
slice_bounds-marks-start c = (own_inside c.requires.has_totals.0 c.args.f.0 c.requires.has_totals.1 c.records_of-records.ensures c.range.ensures.start c.range.ensures.end).0

pub slice_bounds-marks-end : goal.slice_bounds-marks-end
slice_bounds-marks-end c =
    omega (arith, own_inside c.requires.has_totals.0 c.args.f.0 c.requires.has_totals.1 c.records_of-records.ensures c.range.ensures.start c.range.ensures.end)

pub overflow_add-base : goal.overflow_add-base
overflow_add-base c = omega (arith, records_small c.requires.has_totals.0 c.args.f.0 c.requires.has_totals.1 c.records_of-records.ensures)

pub write_total-requires : goal.write_total-requires
write_total-requires c =
    record { stored = total_stored c.requires.has_totals.0 c.args.f.0 c.requires.has_totals.1 c.records_of-records.ensures; fits = total-room c.requires.has_totals.0 c.args.f.0 c.requires.has_totals.1 c.records_of-records.ensures c.range.ensures.start c.range.ensures.end c.args.writer.now c.if-not-flags-i.false c.requires.fits }

pub returns : goal.returns
returns c =
    total-done c.requires.has_totals.0 c.args.f.0 c.requires.has_totals.1 c.records_of-records.ensures c.range.ensures.start c.range.ensures.end c.args.writer.now c.if-not-flags-i.false c.write_total.ensures
