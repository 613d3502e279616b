-- `call::ends::end_call` meets its contract. Assumes nothing.
use native.Mathlib.Omega.{arith}
use Rattle.call.proofs.Rows.{call_row, few_arguments, result_there}
use Rattle.call.proofs.Ending.{end_unasked, end_asked}
use Rattle.call.proofs.ends.end_call.Goals as goal

pub overflow_add-n : goal.overflow_add-n
overflow_add-n c = omega (arith, few_arguments (call_row c.requires), c.operand-n.ensures)

pub then_maybe-r-requires-clause-maybe_below : goal.then_maybe-r-requires-clause-maybe_below
then_maybe-r-requires-clause-maybe_below c =
    (rw (c.optional_expression-result.ensures, c.operand-n.ensures) (result_there (call_row c.requires)), omega arith)

pub returns-then-there : goal.returns-then-there
returns-then-there c =
    end_asked c.requires c.ask_arguments-passed.ensures c.if-there.true (rw c.operand-n.ensures at c.optional_expression-result.ensures) c.then_maybe-r.ensures c.answer.ensures

pub returns : goal.returns
returns c = end_unasked c.requires c.ask_arguments-passed.ensures c.if-there.false c.answer-2.ensures
