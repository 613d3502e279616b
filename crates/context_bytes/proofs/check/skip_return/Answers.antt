-- `context_bytes::check::skip_return` meets its contract: one law for each way.
use Rattle.context_bytes.proofs.Lists.{return_short, return_none, return_part}
use Rattle.context_bytes.proofs.check.skip_return.Goals as goal

pub returns-in_err-code : goal.returns-in_err-code
returns-in_err-code c = rw c.from_residual.ensures (return_short _ c.in_err-code.ensures)

pub returns-then-code-eq-NO_RETURN : goal.returns-then-code-eq-NO_RETURN
returns-then-code-eq-NO_RETURN c = return_none c.in_ok-code.ensures c.if-code-eq-NO_RETURN.true

pub returns : goal.returns
returns c = return_part c.in_ok-code.ensures c.if-code-eq-NO_RETURN.false c.skip_part.ensures
