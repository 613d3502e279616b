-- `strays::lower::lower_at` meets its contract: by cases of what was found.
use Rattle.judge.proofs.Lowest.{lower-nothing, lower-least}
use Rattle.strays.proofs.lower.lower_at.Goals as goal

pub returns-in-None : goal.returns-in-None
returns-in-None c = lower-nothing _ _ c.in-None.is

pub returns-in-Some : goal.returns-in-Some
returns-in-Some c = lower-least _ _ _ c.in-Some.is c.min.ensures
