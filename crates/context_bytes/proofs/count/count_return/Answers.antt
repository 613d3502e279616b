-- `context_bytes::count::count_return` meets its contract: one law for each way.
use Rattle.context_bytes.proofs.Counted.{return_ends, return-nothing, return_malformed, return_counted}
use Rattle.context_bytes.proofs.count.count_return.Goals as goal

pub returns-in_err-code : goal.returns-in_err-code
returns-in_err-code c = rw c.from_residual.ensures (return_ends _ c.in_err-code.ensures)

pub returns-then-code-eq-NO_RETURN : goal.returns-then-code-eq-NO_RETURN
returns-then-code-eq-NO_RETURN c = return-nothing c.in_ok-code.ensures c.if-code-eq-NO_RETURN.true

pub returns-in_err-k : goal.returns-in_err-k
returns-in_err-k c = rw c.from_residual-in_err-k.ensures (return_malformed c.in_ok-code.ensures c.if-code-eq-NO_RETURN.false c.in_err-k.ensures)

pub returns : goal.returns
returns c = return_counted c.in_ok-code.ensures c.if-code-eq-NO_RETURN.false c.in_ok-k.ensures
