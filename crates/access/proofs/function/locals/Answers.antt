-- `access::function::locals` meets its contract.
use Rattle.access.proofs.Access.{locals_are}
use Rattle.access.proofs.function.locals.Goals as goal

pub returns : goal.returns
returns c = locals_are _ _ _ c.row_at.ensures
