-- `strays::exits::none` meets its contract.
use Rattle.strays.proofs.Allowed.{none_is}
use Rattle.strays.proofs.exits.none.Goals as goal

pub returns : goal.returns
returns c = none_is
