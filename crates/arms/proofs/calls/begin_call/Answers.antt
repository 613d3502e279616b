-- `arms::calls::begin_call` meets its contract.
use native.Mathlib.Omega.{arith}
use Rattle.block.proofs.Nested.{arm_weighs}
use Rattle.arms.proofs.CallBegins.{begin_few, begin_own, begin_held, begin_loads, begin_asks, asked_made, begin_enters, begin_tidies, call_begun}
use Rattle.arms.proofs.calls.begin_call.Goals as goal

pub overflow_add-n : goal.overflow_add-n
overflow_add-n c = omega (arith, begin_few c.requires, c.operand-n.ensures)

pub own_pieces-own-requires : goal.own_pieces-own-requires
own_pieces-own-requires c =
    let q9 = begin_own c.requires in
    record { memory = q9.0; f_bound = q9.1 }

pub weigh-requires : goal.weigh-requires
weigh-requires c =
    let q9 = arm_weighs c.requires.arms in
    record { memory = q9.0; n_in_bounds = q9.1 }

pub overflow_add-held : goal.overflow_add-held
overflow_add-held c = omega (arith, begin_held c.requires, c.weigh.ensures)

pub overflow_add-held-2 : goal.overflow_add-held-2
overflow_add-held-2 c = omega (arith, begin_held c.requires, c.weigh.ensures, c.own_pieces-own.ensures)

pub record_of-found-requires : goal.record_of-found-requires
record_of-found-requires c = begin_loads c.requires c.operand-n.ensures c.optional_expression-result.ensures

pub returned-retval-requires : goal.returned-retval-requires
returned-retval-requires c =
    let q9 = begin_asks c.requires c.operand-n.ensures c.optional_expression-result.ensures c.record_of-found.result c.record_of-found.ensures in
    record { good = q9.0; room = q9.1 }

pub enter-requires : goal.enter-requires
enter-requires c =
    let q9 = begin_enters c.requires c.operand-n.ensures c.optional_expression-result.ensures c.record_of-found.result c.record_of-found.ensures c.function_operand-g.ensures in
    record { at_in_bounds = q9.0; inside = q9.1 }

pub tidy-requires : goal.tidy-requires
tidy-requires c =
    let q9 = begin_tidies c.requires c.operand-n.ensures c.optional_expression-result.ensures c.record_of-found.result c.record_of-found.ensures c.function_operand-g.ensures (asked_made _ c.returned-retval.ensures) c.enter.ensures.slots_after in
    record { memory = q9.0; slots_bound = q9.1 }

pub returns : goal.returns
returns c =
    call_begun c.requires c.operand-n.ensures c.optional_expression-result.ensures c.record_of-found.result c.record_of-found.ensures c.function_operand-g.ensures (asked_made _ c.returned-retval.ensures) c.enter.ensures.slots_after c.own_pieces-own.ensures c.weigh.ensures c.enter.ensures.open_after c.tidy.ensures
