-- `operands::expression::ask_compose` meets its contract.
use Rattle.operands.proofs.ByKind.{given_as, all_as, joined_list, components-list}
use Rattle.operands.proofs.expression.ask_compose.Goals as goal

pub is_joined-requires : goal.is_joined-requires
is_joined-requires c = c.requires.arm_given.expression.given.values.same

pub ask_joined-requires : goal.ask_joined-requires
ask_joined-requires c =
    given_as c.requires.arm_given (joined_list c.requires.arm_given c.requires.kind_value c.is_joined.ensures c.if-is_joined.true)

pub returns-then-is_joined : goal.returns-then-is_joined
returns-then-is_joined c =
    all_as c.requires.arm_given (joined_list c.requires.arm_given c.requires.kind_value c.is_joined.ensures c.if-is_joined.true) c.ask_joined.ensures

pub ask_components-requires : goal.ask_components-requires
ask_components-requires c =
    given_as c.requires.arm_given (components-list c.requires.arm_given c.requires.kind_value c.is_joined.ensures c.if-is_joined.false)

pub returns : goal.returns
returns c =
    all_as c.requires.arm_given (components-list c.requires.arm_given c.requires.kind_value c.is_joined.ensures c.if-is_joined.false) c.ask_components.ensures
