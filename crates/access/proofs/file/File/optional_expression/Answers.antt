-- `access::file::File::optional_expression` meets its contract: by whether its number is absent.
use Rattle.access.specs.Access.{handle_in}
use Rattle.access.proofs.file.File.optional_expression.Goals as goal

pub returns-in_err-number : goal.returns-in_err-number
unfolding handle_in
returns-in_err-number c = rw c.from_residual.ensures (rw c.operand.ensures at c.in_err-number.ensures)

pub returns : goal.returns
unfolding handle_in
returns c = rw c.operand.ensures at c.in_ok-number.ensures
