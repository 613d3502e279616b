-- `expression::variables::join` meets its contract. Assumes nothing.
use Rattle.expression.proofs.Maps.{join_set}
use Rattle.expression.proofs.variables.join.Goals as goal

pub returns : goal.returns
returns c = join_set c.requires c.join_asked-r.ensures c.over.ensures c.if-over.false
