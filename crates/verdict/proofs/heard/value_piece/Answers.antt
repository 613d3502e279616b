-- `verdict::heard::value_piece` meets its contract.
use Rattle.verdict.proofs.Hearing.{value_piece}
use Rattle.verdict.proofs.heard.value_piece.Goals as goal

pub returns : goal.returns
returns c = rw c.unwrap_or.ensures (value_piece c.args.retval)
