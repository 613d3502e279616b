-- `pruner::write::write_total` meets its contract: one list after the other.
use Rattle.pruner.specs.Stored.{total_in}
use Rattle.pruner.proofs.Writing.{flag_room, marks_fit, context_fits, exprs_fit, total_writes}
use Rattle.pruner.proofs.write.write_total.Goals as goal

pub field-requires : goal.field-requires
field-requires c =
    flag_room (total_in c.args.cells.now c.args.slots.now c.args.marks.now c.args.context c.args.base c.args.count) c.args.writer.now c.requires.fits

pub write_marks-requires : goal.write_marks-requires
write_marks-requires c =
    marks_fit (total_in c.args.cells.now c.args.slots.now c.args.marks.now c.args.context c.args.base c.args.count) c.args.writer.now c.requires.fits c.field.ensures

pub write_lists-requires : goal.write_lists-requires
write_lists-requires c =
    record { good = c.requires.stored.good; below = c.requires.stored.below; context_in_bounds = c.requires.stored.context_there; fits = context_fits (total_in c.args.cells.now c.args.slots.now c.args.marks.now c.args.context c.args.base c.args.count) c.args.writer.now c.requires.fits c.field.ensures c.write_marks.ensures }

pub write_records-requires : goal.write_records-requires
write_records-requires c =
    record { good = c.requires.stored.good; below = c.requires.stored.below; n_in_bounds = c.requires.stored.records_there; fits = exprs_fit (total_in c.args.cells.now c.args.slots.now c.args.marks.now c.args.context c.args.base c.args.count) c.args.writer.now c.requires.fits c.field.ensures c.write_marks.ensures c.write_lists.ensures }

pub returns : goal.returns
returns c =
    total_writes (total_in c.args.cells.now c.args.slots.now c.args.marks.now c.args.context c.args.base c.args.count) c.args.writer.now c.requires.fits c.field.ensures c.write_marks.ensures c.write_lists.ensures c.write_records.ensures
