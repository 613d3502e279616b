-- `remake` meets its contract.
use Rattle.part.proofs.Write.{stay_cell}
use Rattle.part.proofs.store.remake.Goals as goal

pub returns-then-x-rest : goal.returns-then-x-rest
returns-then-x-rest c = stay_cell c.requires.good c.requires.holds c.if-x-child.true c.if-x-rest.true
