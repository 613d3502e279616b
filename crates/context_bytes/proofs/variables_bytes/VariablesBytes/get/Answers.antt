-- `VariablesBytes::get` meets its contract: what is found of a variable in a list that can be read.
use Rattle.context_bytes.proofs.Found.{found_variable}
use Rattle.context_bytes.proofs.variables_bytes.VariablesBytes.get.Goals as goal

pub returns-in_err-bytes : goal.returns-in_err-bytes
returns-in_err-bytes c = rw c.from_residual.ensures (found_variable c.args.self.now.readable c.in_err-bytes.ensures)

pub returns : goal.returns
returns c = let f = found_variable c.args.self.now.readable c.in_ok-bytes.ensures in (f.1, f.2)
