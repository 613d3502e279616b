-- `pruner::write::write_records` meets its contract: the loop's invariant says that the records before this one are written.
use Rattle.memory.specs.Memory.{read, records_of}
use Rattle.pruner.specs.Form.{write_records}
use Rattle.pruner.proofs.Writing.{Going}
use Rattle.pruner.proofs.write.write_records.Given as goal

abbrev pub invariant-loop-p : goal.invariant-loop-p
invariant-loop-p l = Going l.n l.p-index l.initial.writer l.writer (write_records (records_of (read l.cells l.slots) l.base l.p-index))
