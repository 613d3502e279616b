-- `mark_roots` meets its contract: after k turns the first k roots are marked.
use Rattle.part.specs.Collect.{Rooted}
use Rattle.part.specs.Exact.{Mapped}
use Rattle.part.proofs.marking.mark_roots.Given as goal

abbrev pub invariant-loop-n : goal.invariant-loop-n
invariant-loop-n l = Rooted l.roots l.initial.cells l.cells l.n-index × Mapped l.initial.cells l.roots l.cells l.n-index
