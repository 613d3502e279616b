-- `call::arguments::ask_arguments` meets its contract. Assumes nothing.
use mathlib.Core.Path.{refl, ◌∙◌}
use Prim.Native.Nat.{◌+◌, ◌-◌}
use native.Mathlib.Omega.{arith}
use Rattle.access.specs.Access.{operand_at}
use Rattle.state.proofs.Ends.{passed}
use Rattle.call.proofs.Passing.{arguments_none, arguments_next, arguments_stop, arguments_whole}
use Rattle.call.proofs.Rows.{call_row, few_arguments, argument_there}
use Rattle.call.proofs.arguments.ask_arguments.Goals as goal

pub loop-i-init : goal.loop-i-init
loop-i-init c = (arguments_none c.requires, (refl, refl))

pub overflow_add-i : goal.overflow_add-i
overflow_add-i c =
    omega (arith, few_arguments (call_row c.requires), c.operand-n.ensures)

pub then_argument-requires-clause-e_in_bounds : goal.then_argument-requires-clause-e_in_bounds
then_argument-requires-clause-e_in_bounds c =
    rw c.expression_operand-e.ensures (argument_there (call_row c.requires) c.loop-i.i (omega (arith, c.operand-n.ensures)))

pub loop-i-preserved : goal.loop-i-preserved
loop-i-preserved c =
    (arguments_next c.loop-i.invariant.0 (omega arith) c.expression_operand-e.ensures c.in_ok-tally.ensures, (c.then_argument.auto.cells ∙ c.loop-i.invariant.1.0, c.then_argument.auto.slots ∙ c.loop-i.invariant.1.1))

pub returns-in_err-tally : goal.returns-in_err-tally
returns-in_err-tally c =
    rw (passed c.from_residual.ensures.1)
    (arguments_stop (operand_at c.args.file.now.bytes c.args.row 1 - (c.loop-i.i + 1)) (arguments_next c.loop-i.invariant.0 refl c.expression_operand-e.ensures c.in_err-tally.ensures) (omega (arith, c.operand-n.ensures)))

pub returns : goal.returns
returns c =
    arguments_whole c.loop-i.invariant.0 (omega (arith, c.operand-n.ensures))
