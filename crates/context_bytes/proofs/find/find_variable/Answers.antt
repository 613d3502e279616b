-- `context_bytes::find::find_variable` meets its contract: one law for each way.
use Rattle.context_bytes.proofs.Found.{variable_short, variable_found}
use Rattle.context_bytes.proofs.find.find_variable.Goals as goal

pub returns-in_err-count : goal.returns-in_err-count
returns-in_err-count c = rw c.from_residual.ensures (variable_short _ _ c.in_err-count.ensures)

pub returns : goal.returns
returns c = variable_found c.in_ok-count.ensures c.find_entry.ensures
