-- `asking::ask::ask_whole` meets its contract.
use Rattle.asking.proofs.Ready.{whole_given, whole_stepped}
use Rattle.asking.proofs.ask.ask_whole.Goals as goal

pub ask_value-requires : goal.ask_value-requires
ask_value-requires c = whole_given c.requires

pub returns : goal.returns
returns c = whole_stepped c.requires c.ask_value.ensures
