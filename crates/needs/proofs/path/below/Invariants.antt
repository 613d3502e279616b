-- `needs::path::below` meets its contract. What is left of the path keeps the answer (`Going`).
use Rattle.needs.proofs.Steps.{Going}
use Rattle.needs.proofs.path.below.Given as goal

abbrev pub invariant-loop-i : goal.invariant-loop-i
invariant-loop-i l = Going l.cells l.n l.path l.m l.i-index
