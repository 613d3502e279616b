-- `operands::operators::ask_whole` meets its contract.
use Rattle.part.proofs.Pieces.{part-0}
use Rattle.operands.proofs.Lists.{value_given, value_all, all_piece}
use Rattle.operands.proofs.operators.ask_whole.Goals as goal

pub ask_value-requires : goal.ask_value-requires
ask_value-requires c = value_given c.requires c.expression_operand-v.ensures 0 (part-0 _) (all_piece c.requires)

pub returns : goal.returns
returns c = value_all c.requires c.expression_operand-v.ensures 0 (part-0 _) c.ask_value.ensures
