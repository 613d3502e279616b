-- `arms::calls::return_call` meets its contract.
use native.Mathlib.Omega.{arith}
use Rattle.arms.proofs.CallReturns.{return_few, return_marks, not-returned, return_loads, return_calls, call_returned}
use Rattle.arms.proofs.calls.return_call.Goals as goal

pub set_call-requires : goal.set_call-requires
set_call-requires c = return_marks c.requires c.place-at.ensures

pub returns-then-not-required : goal.returns-then-not-required
returns-then-not-required c =
    not-returned c.requires c.place-at.ensures c.args.required c.if-not-required.true-raw c.set_call.ensures

pub overflow_add-n : goal.overflow_add-n
overflow_add-n c = omega (arith, return_few c.requires, c.operand-n.ensures)

pub record_of-found-requires : goal.record_of-found-requires
record_of-found-requires c =
    return_loads c.requires c.place-at.ensures c.operand-n.ensures c.optional_expression-result.ensures

pub end_call-r-requires : goal.end_call-r-requires
end_call-r-requires c =
    return_calls c.requires c.place-at.ensures c.operand-n.ensures c.optional_expression-result.ensures c.record_of-found.result c.record_of-found.ensures c.hold_result-there.ensures.1

pub mark_call-requires : goal.mark_call-requires
mark_call-requires c = return_marks c.requires c.place-at.ensures

pub returns : goal.returns
returns c =
    call_returned c.requires c.place-at.ensures c.operand-n.ensures c.optional_expression-result.ensures c.record_of-found.result c.record_of-found.ensures c.hold_result-there.ensures.1 c.args.required c.if-not-required.false-raw c.hold_result-there.ensures.0 c.end_call-r.ensures c.mark_call.ensures
