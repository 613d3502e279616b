-- `access::function::statements` meets its contract.
use Rattle.access.proofs.Access.{statements-are}
use Rattle.access.proofs.function.statements.Goals as goal

pub returns : goal.returns
returns c = statements-are _ _ _ c.row_at.ensures
