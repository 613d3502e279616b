-- `covers` meets its contract. Each turn of the loop keeps the answer (`Covering`); the left piece's number falls, along the list and into an entry.
use Rattle.part.proofs.Covering.{Covering}
use Rattle.part.proofs.sums.+covers.Given as goal

abbrev pub invariant-loop-n : goal.invariant-loop-n
invariant-loop-n l = Covering l.initial.cells l.cells l.a l.b l.m l.n

abbrev pub decreases-loop-n : goal.decreases-loop-n
decreases-loop-n l = l.m

abbrev pub decreases-covers : goal.decreases-covers
decreases-covers l = l.a
