-- `arms::calls::hold_result` meets its contract.
use Rattle.arms.proofs.CallReturns.{result-held}
use Rattle.arms.proofs.calls.hold_result.Goals as goal

pub returns-in-Some : goal.returns-in-Some
returns-in-Some c = result-held _ c.in-Some.is
