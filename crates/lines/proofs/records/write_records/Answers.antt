-- `lines::records::write_records` meets its contract. The records from the k-th on are left.
use Prim.Native.Nat.{◌+◌}
use Rattle.lines.proofs.Along.{along_fits, along_more, along_done}
use Rattle.lines.proofs.Rows.{records_next, records_none}
use Rattle.marks.proofs.Write.{slice_at}
use native.Mathlib.Omega.{arith}
use Rattle.lines.proofs.records.write_records.Goals as goal

pub write_record-requires : goal.write_record-requires
write_record-requires c =
    record { good = c.requires.good.0; p_bound = (omega (arith, slice_at c.args.slots.now c.args.base c.args.n c.loop-k.k (omega arith), c.requires.good.1 (c.args.base + c.loop-k.k) (omega (arith, c.requires.n_in_bounds.0))), along_fits c.requires.n_in_bounds.2 c.loop-k.invariant (records_next c.args.cells.now c.args.slots.now c.args.base c.args.n c.loop-k.k c.requires.n_in_bounds.0 (omega arith))) }

pub loop-k-preserved : goal.loop-k-preserved
loop-k-preserved c =
    along_more c.loop-k.invariant (records_next c.args.cells.now c.args.slots.now c.args.base c.args.n c.loop-k.k c.requires.n_in_bounds.0 (omega arith)) c.write_record.ensures

pub returns : goal.returns
returns c =
    along_done c.loop-k.invariant (records_none c.args.cells.now c.args.slots.now c.args.base c.args.n c.loop-k.k (omega arith))
