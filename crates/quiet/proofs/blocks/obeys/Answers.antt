-- `quiet::blocks::obeys` meets its contract: nothing may leave, and the mark plays no part.
use Rattle.quiet.proofs.Steps.{obeys_by}
use Rattle.quiet.proofs.blocks.obeys.Goals as goal

pub returns : goal.returns
returns c = obeys_by c.none.ensures c.quiet_statement.ensures
