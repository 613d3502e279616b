-- `context_bytes::count::count_variables` meets its contract: one law for each way.
use Rattle.context_bytes.proofs.Counted.{list_ends, list_counted}
use Rattle.context_bytes.proofs.count.count_variables.Goals as goal

pub returns-in_err-count : goal.returns-in_err-count
returns-in_err-count c = rw c.from_residual.ensures (list_ends _ c.in_err-count.ensures)

pub returns : goal.returns
returns c = list_counted c.in_ok-count.ensures c.count_entries.ensures
