-- `access::function::expressions` meets its contract.
use Rattle.access.proofs.Access.{expressions-are}
use Rattle.access.proofs.function.expressions.Goals as goal

pub returns : goal.returns
returns c = expressions-are _ _ _ c.row_at.ensures
