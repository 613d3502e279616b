-- `strays::exits::at_top` meets its contract.
use Rattle.strays.proofs.Allowed.{top_is}
use Rattle.strays.proofs.exits.at_top.Goals as goal

pub returns : goal.returns
returns c = top_is
