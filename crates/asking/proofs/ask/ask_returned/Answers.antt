-- `asking::ask::ask_returned` meets its contract.
use Rattle.asking.proofs.Ready.{returned_given, returned_valued}
use Rattle.asking.proofs.ask.ask_returned.Goals as goal

pub ask_value-requires : goal.ask_value-requires
ask_value-requires c = returned_given c.requires.step_given c.requires.v_value

pub returns : goal.returns
returns c = returned_valued c.requires.step_given c.requires.v_value c.ask_value.ensures
