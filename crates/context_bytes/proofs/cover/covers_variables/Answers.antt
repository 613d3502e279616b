-- `context_bytes::cover::covers_variables` meets its contract: one law for each way.
use Rattle.context_bytes.proofs.Covered.{list_short, list_covered}
use Rattle.context_bytes.proofs.cover.covers_variables.Goals as goal

pub returns-in_err-count : goal.returns-in_err-count
returns-in_err-count c = rw c.from_residual.ensures (list_short _ _ c.in_err-count.ensures)

pub returns : goal.returns
returns c = list_covered _ c.in_ok-count.ensures c.covers_entries.ensures
