-- `add_up` meets its contract.
use Rattle.part.specs.Exact.{Added}
use Rattle.part.proofs.exact.add_up.Given as goal

abbrev pub invariant-loop-k : goal.invariant-loop-k
invariant-loop-k l = Added l.cells l.sum l.k
