-- `statement::atomic::put_aside` meets its contract. Assumes nothing.
use Rattle.statement.proofs.Loading.{aside_none}
use Rattle.statement.proofs.atomic.put_aside.Goals as goal

pub returns-in_err-slots : goal.returns-in_err-slots
returns-in_err-slots c = rw c.from_residual.ensures (aside_none _ _ _ c.in_err-slots.was)
