-- `statement::ask::then_maybe` meets its contract. Assumes nothing.
use Rattle.statement.proofs.Asking.{maybe_below, maybe_absent, maybe_there}
use Rattle.statement.proofs.ask.then_maybe.Goals as goal

pub returns-in-None : goal.returns-in-None
returns-in-None c = maybe_absent _ c.in-None.is c.requires.fact

pub then_ask-requires-clause-e_in_bounds : goal.then_ask-requires-clause-e_in_bounds
then_ask-requires-clause-e_in_bounds c = (maybe_below c.in-Some.is _ c.requires.maybe_below.0, c.requires.maybe_below.1)

pub returns-in-Some : goal.returns-in-Some
returns-in-Some c = maybe_there _ c.in-Some.is c.then_ask.ensures
