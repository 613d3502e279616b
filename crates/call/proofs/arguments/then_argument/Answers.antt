-- `call::arguments::then_argument` meets its contract. Assumes nothing.
use mathlib.Core.Path.{refl}
use Rattle.memory.proofs.Joins.{got_gone, got_there}
use Rattle.call.proofs.Passing.{argue_none, argue_begins, argue_there}
use Rattle.call.proofs.arguments.then_argument.Goals as goal

pub then_ask-requires-clause-fact : goal.then_ask-requires-clause-fact
then_ask-requires-clause-fact c =
    argue_begins 0 c.args.i refl c.requires.passable (got_there c.args.cells.now _ c.in-Some.is c.get-needed.ensures)

pub returns-in-None : goal.returns-in-None
returns-in-None c =
    argue_none _ _ refl c.requires.passable (got_gone c.args.cells.now _ c.in-None.is c.get-needed.ensures)

pub returns-in-Some : goal.returns-in-Some
returns-in-Some c =
    argue_there _ _ refl c.requires.passable (got_there c.args.cells.now _ c.in-Some.is c.get-needed.ensures) c.then_ask.ensures
