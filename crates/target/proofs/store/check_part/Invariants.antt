-- `check_part` meets its contract. The invariant: what is left of the part, with what is needed there, gives the whole. The measure is the piece's number.
use Rattle.target.proofs.Checking.{Checking}
use Rattle.target.proofs.store.check_part.Given as goal

abbrev pub invariant-loop-n : goal.invariant-loop-n
invariant-loop-n l = Checking l.cells l.q l.whole l.n l.p

abbrev pub decreases-loop-n : goal.decreases-loop-n
decreases-loop-n l = l.n
