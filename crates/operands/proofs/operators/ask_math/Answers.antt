-- `operands::operators::ask_math` meets its contract.
use mathlib.Core.Path.{refl}
use Rattle.operands.specs.Rows.{operands_in}
use Rattle.operands.proofs.Absent.{math_first, math_second, math_full, math_two, math_full_2, math_third, math_three, math_full_3, math_last, math_all}
use Rattle.operands.proofs.operators.ask_math.Goals as goal

pub ask_present-requires : goal.ask_present-requires
ask_present-requires c = math_first (operands_in c.args.operands.now) c.requires

pub ask_present-requires-2 : goal.ask_present-requires-2
ask_present-requires-2 c =
    math_second (operands_in c.args.operands.now) c.requires c.in_ok-ask_present.ensures refl

pub returns-in_err-ask_present : goal.returns-in_err-ask_present
returns-in_err-ask_present c =
    rw c.from_residual.ensures
    (math_full (operands_in c.args.operands.now) c.requires c.in_err-ask_present.ensures refl)

pub returns-in_err-ask_present-2 : goal.returns-in_err-ask_present-2
returns-in_err-ask_present-2 c =
    rw c.from_residual-in_err-ask_present-2.ensures
    (math_full_2 (operands_in c.args.operands.now) c.requires (math_two (operands_in c.args.operands.now) c.requires c.in_ok-ask_present.ensures refl c.in_err-ask_present-2.ensures) refl)

pub ask_present-requires-3 : goal.ask_present-requires-3
ask_present-requires-3 c =
    math_third (operands_in c.args.operands.now) c.requires (math_two (operands_in c.args.operands.now) c.requires c.in_ok-ask_present.ensures refl c.in_ok-ask_present-2.ensures) refl

pub returns-in_err-ask_present-3 : goal.returns-in_err-ask_present-3
returns-in_err-ask_present-3 c =
    rw c.from_residual-in_err-ask_present-3.ensures
    (math_full_3 (operands_in c.args.operands.now) c.requires (math_three (operands_in c.args.operands.now) c.requires (math_two (operands_in c.args.operands.now) c.requires c.in_ok-ask_present.ensures refl c.in_ok-ask_present-2.ensures) refl c.in_err-ask_present-3.ensures) refl)

pub ask_whole-requires : goal.ask_whole-requires
ask_whole-requires c =
    math_last (operands_in c.args.operands.now) c.requires (math_three (operands_in c.args.operands.now) c.requires (math_two (operands_in c.args.operands.now) c.requires c.in_ok-ask_present.ensures refl c.in_ok-ask_present-2.ensures) refl c.in_ok-ask_present-3.ensures) refl

pub returns : goal.returns
returns c =
    math_all (operands_in c.args.operands.now) c.requires (math_three (operands_in c.args.operands.now) c.requires (math_two (operands_in c.args.operands.now) c.requires c.in_ok-ask_present.ensures refl c.in_ok-ask_present-2.ensures) refl c.in_ok-ask_present-3.ensures) refl c.ask_whole.ensures
