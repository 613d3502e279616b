-- `operands::expression::ask_binary` meets its contract.
use Rattle.operands.proofs.ByKind.{given_as, all_as, part_list, whole_list}
use Rattle.operands.proofs.expression.ask_binary.Goals as goal

pub ask_both_same-requires : goal.ask_both_same-requires
ask_both_same-requires c =
    given_as c.requires.arm_given (part_list c.requires.arm_given c.requires.kind_value c.by_part.ensures c.if-by_part.true)

pub returns-then-by_part : goal.returns-then-by_part
returns-then-by_part c =
    all_as c.requires.arm_given (part_list c.requires.arm_given c.requires.kind_value c.by_part.ensures c.if-by_part.true) c.ask_both_same.ensures

pub ask_both_whole-requires : goal.ask_both_whole-requires
ask_both_whole-requires c =
    given_as c.requires.arm_given (whole_list c.requires.arm_given c.requires.kind_value c.by_part.ensures c.if-by_part.false)

pub returns : goal.returns
returns c =
    all_as c.requires.arm_given (whole_list c.requires.arm_given c.requires.kind_value c.by_part.ensures c.if-by_part.false) c.ask_both_whole.ensures
