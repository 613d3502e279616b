-- `pruner::write::write_records` meets its contract: the loop's invariant says that the records before this one are written.
use Rattle.memory.specs.Memory.{read, records_of}
use Rattle.pruner.specs.Form.{write_records}
use Rattle.pruner.proofs.Writing.{records_none, all_written, slot_below, record_room, record_again}
use native.Mathlib.Omega.{arith}
use Rattle.pruner.proofs.write.write_records.Goals as goal

pub loop-p-init : goal.loop-p-init
loop-p-init c = records_none c.args.cells.now c.args.slots.now c.args.base c.args.n c.requires.n_in_bounds

pub write_return-requires : goal.write_return-requires
write_return-requires c =
    record { good = c.requires.good; n_bound = slot_below c.args.cells.now c.args.slots.now c.args.base c.args.n c.requires.n_in_bounds c.requires.below (omega arith); fits = record_room c.args.cells.now c.args.slots.now c.args.base c.args.n c.requires.n_in_bounds c.loop-p.invariant (omega arith) c.requires.fits }

pub loop-p-preserved : goal.loop-p-preserved
loop-p-preserved c =
    record_again c.args.cells.now c.args.slots.now c.args.base c.args.n c.requires.n_in_bounds c.loop-p.invariant (omega arith) c.write_return.ensures

pub returns : goal.returns
returns c =
    all_written (λ j. write_records (records_of (read c.args.cells.now c.args.slots.now) c.args.base j)) c.loop-p.invariant (omega arith)
