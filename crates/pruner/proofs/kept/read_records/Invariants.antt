-- `pruner::kept::read_records` meets its contract: the loop's invariant says that the first k records were read.
use Rattle.pruner.proofs.Recording.{Recording}
use Rattle.pruner.proofs.kept.read_records.Given as goal

abbrev pub invariant-loop-k : goal.invariant-loop-k
invariant-loop-k l = Recording l.initial.cells l.initial.slots l.pruner l.base l.n l.sum l.cells l.slots l.k l.left l.count
