-- `access::function::arguments` meets its contract.
use Rattle.access.proofs.Access.{arguments-are}
use Rattle.access.proofs.function.arguments.Goals as goal

pub returns : goal.returns
returns c = arguments-are _ _ _ c.row_at.ensures
