-- `access::function::blocks` meets its contract.
use Rattle.access.proofs.Access.{blocks-are}
use Rattle.access.proofs.function.blocks.Goals as goal

pub returns : goal.returns
returns c = blocks-are _ _ _ c.row_at.ensures
