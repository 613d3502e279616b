-- `records_of` meets its contract, by the row.
use Rattle.leave.proofs.Leaving.{records_are}
use Rattle.leave.proofs.leave.records_of.Goals as goal

pub returns : goal.returns
returns c = rw c.expressions_from.ensures (records_are _ _ _ c.row-row.ensures)
