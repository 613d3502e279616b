-- `mark_down` meets its contract: from n up, what is marked is walked, and what a marked cell names is marked.
use Rattle.part.specs.Collect.{Marking}
use Rattle.part.specs.Exact.{Walked}
use Rattle.part.proofs.marking.mark_down.Given as goal

abbrev pub invariant-loop-n : goal.invariant-loop-n
invariant-loop-n l = Marking l.initial.cells l.cells l.n × Walked l.initial.cells l.cells l.n
