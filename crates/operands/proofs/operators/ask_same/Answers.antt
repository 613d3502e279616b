-- `operands::operators::ask_same` meets its contract.
use mathlib.Core.Path.{refl}
use Rattle.operands.proofs.Lists.{value_given, value_all, wanted_piece}
use Rattle.operands.proofs.operators.ask_same.Goals as goal

pub ask_value-requires : goal.ask_value-requires
ask_value-requires c = value_given c.requires c.expression_operand-v.ensures _ refl (wanted_piece c.requires)

pub returns : goal.returns
returns c = value_all c.requires c.expression_operand-v.ensures _ refl c.ask_value.ensures
