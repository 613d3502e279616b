-- `find` meets its contract: what is asked for is at n or below. The measure is the number of the piece.
use Rattle.part.proofs.Chains.{Searching}
use Rattle.part.proofs.store.find.Given as goal

abbrev pub invariant-loop-n : goal.invariant-loop-n
invariant-loop-n l = Searching l.cells l.index l.child l.rest l.n

abbrev pub decreases-loop-n : goal.decreases-loop-n
decreases-loop-n l = l.n
