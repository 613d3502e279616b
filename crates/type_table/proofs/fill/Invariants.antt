-- `type_table::fill` meets its contract. The invariant: the words before i are filled.
use lib.ListN.{length}
use Rattle.type_table.proofs.Filled.{Filled}
use Rattle.type_table.proofs.fill.Given as goal

abbrev pub invariant-loop-i : goal.invariant-loop-i
invariant-loop-i l = Filled l.file.bytes l.file.t l.table (length l.initial.table) l.i
