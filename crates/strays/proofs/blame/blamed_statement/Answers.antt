-- `strays::blame::blamed_statement` meets its contract: the lower of both.
use Rattle.strays.proofs.Steps.{joint}
use Rattle.strays.proofs.blame.blamed_statement.Goals as goal

pub returns : goal.returns
returns c = joint _ _ _ _ _ c.unfit_statement-unfit.ensures c.strays.ensures c.lower_of.ensures
