-- `request::lists::read_return` meets its contract: one law for each way.
use Rattle.request.proofs.Entries.{kept_same}
use Rattle.request.proofs.Variables.{refuse_list, return_end, return-nothing, return_refused, return_got}
use Rattle.request.proofs.lists.read_return.Goals as goal

pub returns-in_err-code : goal.returns-in_err-code
returns-in_err-code c = rw c.from_residual.ensures (refuse_list (kept_same c.requires.good) (return_end _ c.in_err-code.ensures))

pub returns-then-code-eq-NO_RETURN : goal.returns-then-code-eq-NO_RETURN
returns-then-code-eq-NO_RETURN c = return-nothing c.in_ok-code.ensures c.requires.good c.if-code-eq-NO_RETURN.true

pub returns-in_err-p : goal.returns-in_err-p
returns-in_err-p c =
    rw c.from_residual-in_err-p.ensures (return_refused c.in_ok-code.ensures c.if-code-eq-NO_RETURN.false c.in_err-p.ensures)

pub returns : goal.returns
returns c = return_got c.in_ok-code.ensures c.if-code-eq-NO_RETURN.false c.in_ok-p.ensures
