-- `strays::lower::lower_unless` meets its contract: by cases of what is allowed.
use Rattle.strays.proofs.Lowers.{unless_allowed, unless_not}
use Rattle.strays.proofs.lower.lower_unless.Goals as goal

pub returns-then-allowed : goal.returns-then-allowed
returns-then-allowed c = unless_allowed _ _ _ c.if-allowed.true

pub returns : goal.returns
returns c = unless_not _ _ _ _ c.if-allowed.false c.lower_at.ensures
