-- `arms::calls::mark_call` meets its contract.
use Rattle.state.proofs.Ends.{passed}
use Rattle.arms.proofs.CallReturns.{call_marked, call_halted}
use Rattle.arms.proofs.calls.mark_call.Goals as goal

pub returns : goal.returns
returns c = call_marked _ _ _ c.in_ok-a.was c.set_call.ensures

pub returns-in_err-a : goal.returns-in_err-a
returns-in_err-a c = rw (passed c.from_residual.ensures.1) (call_halted _ _ _ c.in_err-a.was)
