-- `slide` meets its contract: before n, what is marked has gone to the first numbers; from n on all stands where it stood.
use Rattle.part.specs.Collect.{Sliding}
use Rattle.part.proofs.collect.slide.Given as goal

abbrev pub invariant-loop-n : goal.invariant-loop-n
invariant-loop-n l = Sliding l.initial.cells l.cells l.n l.v
