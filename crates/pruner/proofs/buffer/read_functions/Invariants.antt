-- `pruner::buffer::read_functions` meets its contract: the loop's invariant says that the totals of the first f functions were read.
use Rattle.marks.specs.Report.{totals_of}
use Rattle.pruner.proofs.Through.{Through}
use Rattle.pruner.proofs.buffer.read_functions.Given as goal

abbrev pub invariant-loop-f : goal.invariant-loop-f
invariant-loop-f l = Through l.file.bytes l.file.t l.initial.cells l.initial.slots l.pruner l.sum l.cells l.slots (totals_of l.flags l.kept) l.f l.left l.count
