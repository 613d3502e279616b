-- By the kind of the expression (ByKind).
use Rattle.std.proofs.Common.{rules}
use Rattle.operands.proofs.ByKind.{arm_given, given_as, all_as, index_list, access_list, letters-list, letters_few, load_list, load_pointer, select_list, math_list, wholes_list, same_list}
use Rattle.operands.proofs.expression.ask_operands.Goals as goal

pub ask_index-requires : goal.ask_index-requires
ask_index-requires c = given_as (arm_given c.requires.operands_given c.expression-row.ensures) (index_list (arm_given c.requires.operands_given c.expression-row.ensures) (search rules))

pub returns-in-Ok-AccessIndex : goal.returns-in-Ok-AccessIndex
returns-in-Ok-AccessIndex c = all_as (arm_given c.requires.operands_given c.expression-row.ensures) (index_list (arm_given c.requires.operands_given c.expression-row.ensures) (search rules)) c.ask_index.ensures

pub ask_both_whole-requires : goal.ask_both_whole-requires
ask_both_whole-requires c = given_as (arm_given c.requires.operands_given c.expression-row.ensures) (access_list (arm_given c.requires.operands_given c.expression-row.ensures) (search rules))

pub returns-in-Ok-Access : goal.returns-in-Ok-Access
returns-in-Ok-Access c = all_as (arm_given c.requires.operands_given c.expression-row.ensures) (access_list (arm_given c.requires.operands_given c.expression-row.ensures) (search rules)) c.ask_both_whole.ensures

pub ask_letters-requires-clause-list_given : goal.ask_letters-requires-clause-list_given
ask_letters-requires-clause-list_given c = given_as (arm_given c.requires.operands_given c.expression-row.ensures) (letters-list (arm_given c.requires.operands_given c.expression-row.ensures) (search rules))

pub ask_letters-requires-clause-row_bound : goal.ask_letters-requires-clause-row_bound
ask_letters-requires-clause-row_bound c = letters_few (arm_given c.requires.operands_given c.expression-row.ensures) (search rules)

pub returns-in-Ok-Swizzle : goal.returns-in-Ok-Swizzle
returns-in-Ok-Swizzle c = all_as (arm_given c.requires.operands_given c.expression-row.ensures) (letters-list (arm_given c.requires.operands_given c.expression-row.ensures) (search rules)) c.ask_letters.ensures

pub ask_select-requires : goal.ask_select-requires
ask_select-requires c = given_as (arm_given c.requires.operands_given c.expression-row.ensures) (select_list (arm_given c.requires.operands_given c.expression-row.ensures) (search rules))

pub returns-in-Ok-Select : goal.returns-in-Ok-Select
returns-in-Ok-Select c = all_as (arm_given c.requires.operands_given c.expression-row.ensures) (select_list (arm_given c.requires.operands_given c.expression-row.ensures) (search rules)) c.ask_select.ensures

pub ask_math-requires : goal.ask_math-requires
ask_math-requires c = given_as (arm_given c.requires.operands_given c.expression-row.ensures) (math_list (arm_given c.requires.operands_given c.expression-row.ensures) (search rules))

pub returns-in-Ok-Math : goal.returns-in-Ok-Math
returns-in-Ok-Math c = all_as (arm_given c.requires.operands_given c.expression-row.ensures) (math_list (arm_given c.requires.operands_given c.expression-row.ensures) (search rules)) c.ask_math.ensures

pub ask_compose-requires-clause-arm_given : goal.ask_compose-requires-clause-arm_given
ask_compose-requires-clause-arm_given c = (arm_given c.requires.operands_given c.expression-row.ensures)

pub ask_binary-requires-clause-arm_given : goal.ask_binary-requires-clause-arm_given
ask_binary-requires-clause-arm_given c = (arm_given c.requires.operands_given c.expression-row.ensures)

pub ask_load-requires-clause-list_given : goal.ask_load-requires-clause-list_given
ask_load-requires-clause-list_given c = given_as (arm_given c.requires.operands_given c.expression-row.ensures) (load_list (arm_given c.requires.operands_given c.expression-row.ensures) (search rules) c.expression_operand.ensures)

pub invariant_of-pointer : goal.invariant_of-pointer
invariant_of-pointer c =
    record { pointer = load_pointer (arm_given c.requires.operands_given c.expression-row.ensures) (search rules) c.expression_operand.ensures }

pub returns-in-Ok-Load : goal.returns-in-Ok-Load
returns-in-Ok-Load c = all_as (arm_given c.requires.operands_given c.expression-row.ensures) (load_list (arm_given c.requires.operands_given c.expression-row.ensures) (search rules) c.expression_operand.ensures) c.ask_load.ensures

pub ask_whole-requires : goal.ask_whole-requires
ask_whole-requires c = given_as (arm_given c.requires.operands_given c.expression-row.ensures) (wholes_list (arm_given c.requires.operands_given c.expression-row.ensures) (search rules))

pub returns-in-Ok-Splat : goal.returns-in-Ok-Splat
returns-in-Ok-Splat c = all_as (arm_given c.requires.operands_given c.expression-row.ensures) (wholes_list (arm_given c.requires.operands_given c.expression-row.ensures) (search rules)) c.ask_whole.ensures

pub ask_same-requires : goal.ask_same-requires
ask_same-requires c = given_as (arm_given c.requires.operands_given c.expression-row.ensures) (same_list (arm_given c.requires.operands_given c.expression-row.ensures) (search rules))

pub returns-in_default : goal.returns-in_default
returns-in_default c = all_as (arm_given c.requires.operands_given c.expression-row.ensures) (same_list (arm_given c.requires.operands_given c.expression-row.ensures) (search rules)) c.ask_same.ensures
