-- `operands::made::ask_component` meets its contract.
use Rattle.operands.proofs.Lists.{value_all}
use Rattle.operands.proofs.made.ask_component.Goals as goal

pub returns : goal.returns
returns c =
    value_all c.requires.list_given c.expression_operand-v.ensures _ c.subpart-c.ensures.is c.ask_value.ensures
