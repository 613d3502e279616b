-- `contains` meets its contract. Each turn of the loop keeps the answer (`Along`); the left piece's number falls, along the list and into an entry.
use Rattle.part.proofs.Reading.{Along}
use Rattle.part.proofs.req.+contains.Given as goal

abbrev pub invariant-loop-n : goal.invariant-loop-n
invariant-loop-n l = Along l.cells l.a l.b l.m l.n

abbrev pub decreases-loop-n : goal.decreases-loop-n
decreases-loop-n l = l.m

abbrev pub decreases-contains : goal.decreases-contains
decreases-contains l = l.a
