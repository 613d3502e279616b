-- `lines::records::write_records` meets its contract. The records from the k-th on are left.
use Rattle.memory.specs.Memory.{read, records_of}
use Rattle.lines.specs.Text.{records_text}
use Rattle.lines.proofs.Along.{Along}
use Rattle.lines.proofs.Rows.{records_left}
use Rattle.lines.proofs.records.write_records.Given as goal

abbrev pub invariant-loop-k : goal.invariant-loop-k
invariant-loop-k l = Along l.initial.text l.text (records_text 0 (records_of (read l.cells l.slots) l.base l.n)) (records_left l.cells l.slots l.base l.n l.k)
