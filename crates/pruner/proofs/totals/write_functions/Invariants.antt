-- `pruner::totals::write_functions` meets its contract: the loop's invariant says that the totals of the first f functions are written.
use Rattle.module.specs.Decode.{tab}
use Rattle.module.specs.Tables.{module_of}
use Rattle.memory.specs.Memory.{read}
use Rattle.marks.specs.Report.{totals_of}
use Rattle.block.specs.Standing.{total_in}
use Rattle.pruner.specs.Form.{write_totals}
use Rattle.pruner.proofs.Writing.{Going}
use Rattle.pruner.proofs.totals.write_functions.Given as goal

abbrev pub invariant-loop-f : goal.invariant-loop-f
invariant-loop-f l = Going l.f-end l.f l.initial.writer l.writer (write_totals (tab l.f (total_in (module_of l.file.bytes l.file.t) l.file.t (read l.cells l.slots) (totals_of l.flags l.kept))))
