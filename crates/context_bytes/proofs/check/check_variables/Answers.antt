-- `context_bytes::check::check_variables` meets its contract: one law for each way.
use Rattle.context_bytes.proofs.Lists.{variables_short, variables_read}
use Rattle.context_bytes.proofs.check.check_variables.Goals as goal

pub returns-in_err-count : goal.returns-in_err-count
returns-in_err-count c = rw c.from_residual.ensures (variables_short _ _ c.in_err-count.ensures)

pub returns : goal.returns
returns c = variables_read c.in_ok-count.ensures c.check_entries.ensures
