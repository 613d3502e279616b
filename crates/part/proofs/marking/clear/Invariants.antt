-- `clear` meets its contract: after n turns the first n marks are 0.
use Rattle.part.specs.Collect.{Cleared}
use Rattle.part.proofs.marking.clear.Given as goal

abbrev pub invariant-loop-n : goal.invariant-loop-n
invariant-loop-n l = Cleared l.initial.cells l.cells l.n
