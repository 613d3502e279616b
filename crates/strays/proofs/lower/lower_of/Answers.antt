-- `strays::lower::lower_of` meets its contract: by cases of the first.
use Rattle.strays.proofs.Lowers.{of_nothing, of_some}
use Rattle.strays.proofs.lower.lower_of.Goals as goal

pub returns-in-None : goal.returns-in-None
returns-in-None c = of_nothing _ _ c.in-None.is

pub returns-in-Some : goal.returns-in-Some
returns-in-Some c = of_some _ _ _ _ c.in-Some.is c.lower_at.ensures
