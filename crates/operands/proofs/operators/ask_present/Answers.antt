-- `operands::operators::ask_present` meets its contract.
use Rattle.part.proofs.Pieces.{part-0}
use Rattle.operands.proofs.Absent.{present_none, present_is, present_whole}
use Rattle.operands.proofs.Lists.{value_given, value_all, all_piece}
use Rattle.operands.proofs.operators.ask_present.Goals as goal

pub returns-in-None : goal.returns-in-None
returns-in-None c = present_none _ c.in-None.ensures c.requires

pub ask_value-requires : goal.ask_value-requires
ask_value-requires c = value_given (rw (present_whole _ c.in-Some.ensures) at c.requires) (present_is _ c.in-Some.ensures) 0 (part-0 _) (all_piece c.requires)

pub returns-in-Some : goal.returns-in-Some
returns-in-Some c =
    rw (present_whole _ c.in-Some.ensures)
    (value_all (rw (present_whole _ c.in-Some.ensures) at c.requires) (present_is _ c.in-Some.ensures) 0 (part-0 _) c.ask_value.ensures)
