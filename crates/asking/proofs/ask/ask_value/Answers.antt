-- `asking::ask::ask_value` meets its contract.
use mathlib.Core.Path.{refl}
use Rattle.asking.proofs.Values.{source_is, given-asks, value_asks}
use Rattle.asking.proofs.ask.ask_value.Goals as goal

pub returns-in-Given : goal.returns-in-Given
returns-in-Given c = given-asks c.requires (source_is c.requires c.source_of-source.ensures c.in-Given.is)

pub returns-in-Argument : goal.returns-in-Argument
returns-in-Argument c =
    value_asks c.requires (source_is c.requires c.source_of-source.ensures c.in-Argument.is) c.argument_path.ensures refl c.ask_place.ensures

pub returns-in-Evaluated : goal.returns-in-Evaluated
returns-in-Evaluated c =
    value_asks c.requires (source_is c.requires c.source_of-source.ensures c.in-Evaluated.is) c.evaluated_path.ensures refl c.ask_place-in-Evaluated.ensures
