-- `turn` meets its contract: after k turns the first k roots are where they went.
use Rattle.part.specs.Collect.{Turned}
use Rattle.part.proofs.collect.turn.Given as goal

abbrev pub invariant-loop-r : goal.invariant-loop-r
invariant-loop-r l = Turned l.cells l.initial.roots l.roots l.r-index
