-- `subpart` meets its contract, by `get`'s answer.
use Rattle.part.proofs.Found.{subpart_found}
use Rattle.part.proofs.subpart.subpart.Goals as goal

pub returns : goal.returns
returns c = rw c.unwrap_or.ensures (subpart_found _ c.get.result c.requires.good c.get.ensures)
