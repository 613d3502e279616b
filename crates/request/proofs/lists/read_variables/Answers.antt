-- `request::lists::read_variables` meets its contract.
use Rattle.request.proofs.Entries.{kept_same}
use Rattle.request.proofs.Variables.{refuse_list, variables_end, variables_read}
use Rattle.request.proofs.lists.read_variables.Goals as goal

pub returns-in_err-count : goal.returns-in_err-count
returns-in_err-count c = rw c.from_residual.ensures (refuse_list (kept_same c.requires.good) (variables_end _ _ c.in_err-count.ensures))

pub returns : goal.returns
returns c = variables_read _ c.in_ok-count.ensures c.read_known.ensures
