-- The one proof of the walks of blocks, statements and functions: each need is answered by a law of crates block and arms. A number falls: that of the block among the blocks of its
-- function, below the numbers of all higher functions.
use Rattle.arms.proofs.AddIf.{if_asked, if_ends, if_few, if_halts, if_paired}
use Rattle.arms.proofs.ByArm.{if_arm, leaf_ends, loop_arm, mark_asks, mark_ends, nested_arm, switch_arm}
use Rattle.arms.proofs.CallSteps.{call_begins, call_ended, call_high, call_leaves, call_own, call_returns, call_stops, call_sum, callee_below, function_enters}
use Rattle.arms.proofs.Looping.{loop_dropped, loop_drops, loop_ends, loop_fits, loop_halts, loop_paired, loop_pass_halts, loop_passing, loop_turning}
use Rattle.arms.proofs.SwitchCases.{began, body_lower, case-ends, case_enters, case_halts, case_limit, cases_begin, cases_next, copy_asks, held_fits, outside_few, switch_asks, switch_whole}
use Rattle.arms.proofs.Turns.{turn_goes_on, turn_halts, turn_limits, turn_paired, turn_settles, turn_walked, turns_begin, turns_fit, turns_fit_2, turns_over, turns_weigh}
use Rattle.arms.proofs.Visited.{last_asks, visit_16, visit_17, visit_arms, visit_counting, visit_ends}
use Rattle.block.proofs.Bodies.{body_asked, body_below, body_enters, function_ends, function_halt, function_halt_2}
use Rattle.block.proofs.Nested.{arm_high, arm_small, arm_weighs, nested_ends, nested_enters, nested_lower, nested_lowers, nested_stops}
use Rattle.block.proofs.Paired.{pair_ends, pair_first, pair_halt, pair_halt_2, pair_second, pair_small, pair_weighs, weighs}
use Rattle.block.proofs.Statements.{all_left, base-copies, base-small, base-weighs, none_left, statement_low, statement_visits, statements_next, statements_stop}
use Rattle.request.proofs.Ways.{refuses}
use Rattle.state.proofs.Ends.{passed}
use mathlib.Core.Path.{refl, ap}
use Rattle.std.specs.Option.{is_none, is_some}
use Rattle.std.proofs.Common.{rules}
use native.Mathlib.Omega.{arith}
use borrow.Author.Tests.{not-true, not-false}
use Rattle.function.proofs.add.+walk.Goals as goal
use Rattle.function.proofs.add.+walk.Goals.{add_holder-in-Ok-Block, add_holder-in-Ok-If, add_holder-in-Ok-Switch, add_holder-in_default}

pub add_arm-returns-in-Ok-Emit : goal.add_arm-returns-in-Ok-Emit
add_arm-returns-in-Ok-Emit t c = c.add_emit.ensures.by _ c.args.world.now.places.now.starts _ _ _ c.requires.begins.standing

pub add_arm-mark_statement-requires : goal.add_arm-mark_statement-requires
add_arm-mark_statement-requires t c = mark_asks c.requires _ (omega arith)

pub add_arm-returns : goal.add_arm-returns
add_arm-returns t c = mark_ends c.requires c.mark_statement.ensures (leaf_ends c.requires _ c.add_leaf-r.ensures)

pub add_block-weigh-requires : goal.add_block-weigh-requires
add_block-weigh-requires t c =
    let q9 = base-weighs c.args.f c.requires in
    record { memory = q9.0; n_in_bounds = q9.1 }

pub add_block-overflow_add-inner : goal.add_block-overflow_add-inner
add_block-overflow_add-inner t c = let h = base-small c.args.f c.requires c.weigh.ensures in omega (arith, h)

pub add_block-copy_context-requires : goal.add_block-copy_context-requires
add_block-copy_context-requires t c = base-copies c.args.f c.requires

pub add_block-loop-k-init : goal.add_block-loop-k-init
add_block-loop-k-init t c =
    all_left c.args.f c.requires c.args.break_required c.copy_context.ensures c.block-range.result c.block-range.ensures c.weigh.ensures

pub add_block-overflow_add-fr : goal.add_block-overflow_add-fr
add_block-overflow_add-fr t c =
    let h = statement_low c.args.f c.requires c.args.break_required c.copy_context.ensures c.loop-k.invariant (omega arith) in omega (arith, h)

pub add_block-add_statement-requires : goal.add_block-add_statement-requires
add_block-add_statement-requires t c =
    (omega (arith, c.decreases), statement_visits c.args.f c.requires c.args.break_required c.copy_context.ensures c.loop-k.invariant (omega arith))

pub add_block-returns-in_err-a : goal.add_block-returns-in_err-a
add_block-returns-in_err-a t c =
    rw (passed c.from_residual.ensures.1)
    (statements_stop c.args.f c.requires c.args.break_required c.copy_context.ensures c.loop-k.invariant (omega arith) c.add_statement.ensures c.in_err-a.was)

pub add_block-loop-k-preserved : goal.add_block-loop-k-preserved
add_block-loop-k-preserved t c =
    statements_next c.args.f c.requires c.args.break_required c.copy_context.ensures c.loop-k.invariant (omega arith) c.add_statement.ensures c.in_ok-a.was refl refl

pub add_block-returns : goal.add_block-returns
add_block-returns t c =
    none_left c.args.f c.requires c.args.break_required c.copy_context.ensures c.loop-k.invariant (omega arith)

pub add_call-begin_call-begun-requires : goal.add_call-begin_call-begun-requires
add_call-begin_call-begun-requires t c = call_begins c.requires.arms c.requires.kind_value

pub add_call-overflow_add-at : goal.add_call-overflow_add-at
add_call-overflow_add-at t c =
    omega (arith, call_high c.requires.arms c.requires.kind_value, c.args.space.now.parts.slots_long)

pub add_call-overflow_sub-others : goal.add_call-overflow_sub-others
add_call-overflow_sub-others t c =
    omega (arith, call_own c.requires.arms c.requires.kind_value c.function_operand-g.ensures c.begin_call-begun.ensures)

pub add_call-add_function-requires : goal.add_call-add_function-requires
add_call-add_function-requires t c =
    (omega (arith, c.decreases, callee_below c.requires.arms c.requires.kind_value, c.function_operand-g.ensures), (function_enters c.requires.arms c.requires.kind_value c.function_operand-g.ensures c.begin_call-begun.ensures, omega (arith, call_high c.requires.arms c.requires.kind_value, c.args.space.now.parts.slots_long)))

pub add_call-overflow_add-a : goal.add_call-overflow_add-a
add_call-overflow_add-a t c =
    omega (arith, call_sum c.requires.arms c.requires.kind_value c.function_operand-g.ensures c.begin_call-begun.ensures c.add_function.ensures c.in_ok-a.was)

pub add_call-leave_call-sum-requires : goal.add_call-leave_call-sum-requires
add_call-leave_call-sum-requires t c =
    call_leaves c.requires.arms c.requires.kind_value c.function_operand-g.ensures c.begin_call-begun.ensures c.add_function.ensures c.in_ok-a.was

pub add_call-return_call-requires : goal.add_call-return_call-requires
add_call-return_call-requires t c =
    call_returns c.requires.arms c.requires.kind_value c.function_operand-g.ensures c.begin_call-begun.ensures c.add_function.ensures c.in_ok-a.was c.leave_call-sum.ensures

pub add_call-returns-in_err-a : goal.add_call-returns-in_err-a
add_call-returns-in_err-a t c =
    rw (passed c.from_residual.ensures.1)
    (call_stops c.requires.arms c.requires.kind_value c.function_operand-g.ensures c.begin_call-begun.ensures c.add_function.ensures c.in_err-a.was)

pub add_call-returns : goal.add_call-returns
add_call-returns t c =
    call_ended c.requires.arms c.requires.kind_value c.function_operand-g.ensures c.begin_call-begun.ensures c.add_function.ensures c.in_ok-a.was c.leave_call-sum.ensures c.return_call.ensures

pub add_function-overflow_add-at : goal.add_function-overflow_add-at
add_function-overflow_add-at t c = omega (arith, c.requires.base_bound)

pub add_function-add_block-requires : goal.add_function-add_block-requires
add_function-add_block-requires t c =
    (omega (arith, c.decreases, body_below c.requires.function_entered c.body_block-b.ensures), body_enters c.requires.function_entered c.body_block-b.ensures)

pub add_function-add_total-requires-clause-asked : goal.add_function-add_total-requires-clause-asked
add_function-add_total-requires-clause-asked t c =
    body_asked c.requires.function_entered c.body_block-b.ensures c.args.here c.add_block.ensures c.in_ok-a.was

pub add_function-returns-in_err-a : goal.add_function-returns-in_err-a
add_function-returns-in_err-a t c =
    rw (passed c.from_residual.ensures.1)
    (function_halt c.requires.function_entered c.body_block-b.ensures c.args.here c.add_block.ensures c.in_err-a.was)

pub add_function-returns-in_err-tally : goal.add_function-returns-in_err-tally
add_function-returns-in_err-tally t c =
    rw (passed c.from_residual-in_err-tally.ensures.1)
    (function_halt_2 c.requires.function_entered c.body_block-b.ensures c.args.here c.add_block.ensures c.in_ok-a.was (c.add_total.ensures _) c.in_err-tally.was)

pub add_function-returns : goal.add_function-returns
add_function-returns t c =
    function_ends c.requires.function_entered c.body_block-b.ensures c.args.here c.add_block.ensures c.in_ok-a.was (c.add_total.ensures _) c.in_ok-tally.was

pub add_holder-mark_statement-requires : goal.add_holder-mark_statement-requires
add_holder-mark_statement-requires t c = mark_asks c.requires.arms _ (omega arith)

pub add_holder-returns : goal.add_holder-returns
add_holder-returns t c =
    mark_ends c.requires.arms c.mark_statement.ensures
    (elim c.match-try_from.branch [
      | add_holder-in-Ok-Block w ↦ rw (w.r-is, w.space-is) (nested_arm c.requires.arms (search rules) w.add_nested-r.ensures)
      | add_holder-in-Ok-If w ↦ rw (w.r-is, w.space-is) (if_arm c.requires.arms (search rules) w.add_if-r.ensures)
      | add_holder-in-Ok-Switch w ↦ rw (w.r-is, w.space-is) (switch_arm c.requires.arms (search rules) w.add_switch-r.ensures)
      | add_holder-in_default w ↦ rw (w.r-is, w.space-is) (loop_arm c.requires.arms (search rules) w.add_loop-r.ensures)
    ])

pub add_if-weigh-requires : goal.add_if-weigh-requires
add_if-weigh-requires t c =
    let q9 = arm_weighs c.requires.arms in
    record { memory = q9.0; n_in_bounds = q9.1 }

pub add_if-overflow_add-held : goal.add_if-overflow_add-held
add_if-overflow_add-held t c = omega (arith, if_few c.requires.arms c.requires.kind_value c.weigh.ensures)

pub add_if-overflow_add-at : goal.add_if-overflow_add-at
add_if-overflow_add-at t c = omega (arith, c.requires.arms.begins.standing.ready.high)

pub add_if-add_pair-requires : goal.add_if-add_pair-requires
add_if-add_pair-requires t c =
    (omega (arith, c.decreases), if_paired c.requires.arms c.requires.kind_value c.weigh.ensures c.block_operand-accept.ensures c.block_operand-reject.ensures)

pub add_if-end_if-requires : goal.add_if-end_if-requires
add_if-end_if-requires t c =
    let q9 = if_asked c.requires.arms c.requires.kind_value c.weigh.ensures c.block_operand-accept.ensures c.block_operand-reject.ensures c.add_pair.ensures c.in_ok-a.was c.expression_operand-condition.ensures in
    record { if_asked = q9.0; condition_in_bounds = q9.1 }

pub add_if-returns-in_err-a : goal.add_if-returns-in_err-a
add_if-returns-in_err-a t c =
    rw (passed c.from_residual.ensures.1)
    (if_halts c.requires.arms c.requires.kind_value c.weigh.ensures c.block_operand-accept.ensures c.block_operand-reject.ensures c.add_pair.ensures c.in_err-a.was)

pub add_if-returns : goal.add_if-returns
add_if-returns t c =
    if_ends c.requires.arms c.requires.kind_value c.weigh.ensures c.block_operand-accept.ensures c.block_operand-reject.ensures c.add_pair.ensures c.in_ok-a.was c.expression_operand-condition.ensures _ c.end_if.ensures

pub add_loop-weigh-requires : goal.add_loop-weigh-requires
add_loop-weigh-requires t c =
    let q9 = arm_weighs c.requires.arms in
    record { memory = q9.0; n_in_bounds = q9.1 }

pub add_loop-overflow_add-held : goal.add_loop-overflow_add-held
add_loop-overflow_add-held t c = omega (arith, loop_fits c.requires.arms c.requires.kind_value c.weigh.ensures)

pub add_loop-overflow_add-at : goal.add_loop-overflow_add-at
add_loop-overflow_add-at t c = omega (arith, (arm_weighs c.requires.arms).1.0)

pub add_loop-add_pair-requires : goal.add_loop-add_pair-requires
add_loop-add_pair-requires t c =
    (omega (arith, c.decreases), loop_paired c.requires.arms c.requires.kind_value c.weigh.ensures c.block_operand-body.ensures c.block_operand-continuing.ensures)

pub add_loop-drop_both-requires : goal.add_loop-drop_both-requires
add_loop-drop_both-requires t c =
    loop_drops c.requires.arms c.requires.kind_value c.weigh.ensures c.block_operand-body.ensures c.block_operand-continuing.ensures c.add_pair.ensures c.in_ok-a.was

pub add_loop-returns-then-not-a : goal.add_loop-returns-then-not-a
add_loop-returns-then-not-a t c =
    loop_dropped c.requires.arms c.requires.kind_value c.weigh.ensures c.block_operand-body.ensures c.block_operand-continuing.ensures c.add_pair.ensures c.in_ok-a.was (not-true _ c.if-not-a.true) c.drop_both.ensures

pub add_loop-end_pass-requires : goal.add_loop-end_pass-requires
add_loop-end_pass-requires t c =
    loop_passing c.requires.arms c.requires.kind_value c.weigh.ensures c.block_operand-body.ensures c.block_operand-continuing.ensures c.add_pair.ensures c.in_ok-a.was c.optional_expression-break_if.ensures

pub add_loop-add_turns-requires : goal.add_loop-add_turns-requires
add_loop-add_turns-requires t c =
    (omega (arith, c.decreases), loop_turning c.requires.arms c.requires.kind_value c.weigh.ensures c.block_operand-body.ensures c.block_operand-continuing.ensures c.add_pair.ensures c.in_ok-a.was c.optional_expression-break_if.ensures (not-false _ c.if-not-a.false) c.end_pass.ensures c.in_ok-left.was)

pub add_loop-returns-in_err-a : goal.add_loop-returns-in_err-a
add_loop-returns-in_err-a t c =
    rw (passed c.from_residual.ensures.1)
    (loop_halts c.requires.arms c.requires.kind_value c.weigh.ensures c.block_operand-body.ensures c.block_operand-continuing.ensures c.add_pair.ensures c.in_err-a.was)

pub add_loop-returns-in_err-left : goal.add_loop-returns-in_err-left
add_loop-returns-in_err-left t c =
    rw (passed c.from_residual-in_err-left.ensures.1)
    (loop_pass_halts c.requires.arms c.requires.kind_value c.weigh.ensures c.block_operand-body.ensures c.block_operand-continuing.ensures c.add_pair.ensures c.in_ok-a.was c.optional_expression-break_if.ensures (not-false _ c.if-not-a.false) c.end_pass.ensures c.in_err-left.was)

pub add_loop-returns : goal.add_loop-returns
add_loop-returns t c =
    loop_ends c.requires.arms c.requires.kind_value c.weigh.ensures c.block_operand-body.ensures c.block_operand-continuing.ensures c.add_pair.ensures c.in_ok-a.was c.optional_expression-break_if.ensures (not-false _ c.if-not-a.false) c.end_pass.ensures c.in_ok-left.was _ c.add_turns.ensures

pub add_nested-weigh-requires : goal.add_nested-weigh-requires
add_nested-weigh-requires t c =
    let q9 = arm_weighs c.requires.arms in
    record { memory = q9.0; n_in_bounds = q9.1 }

pub add_nested-overflow_add-held : goal.add_nested-overflow_add-held
add_nested-overflow_add-held t c = let h = arm_small c.requires.arms c.weigh.ensures in omega (arith, h)

pub add_nested-overflow_add-at : goal.add_nested-overflow_add-at
add_nested-overflow_add-at t c = omega (arith, arm_high c.requires.arms)

pub add_nested-add_block-requires : goal.add_nested-add_block-requires
add_nested-add_block-requires t c =
    (omega (arith, c.decreases, nested_lower c.requires.arms c.requires.kind_value, c.block_operand-inner.ensures), nested_enters c.requires.arms c.requires.kind_value c.block_operand-inner.ensures c.weigh.ensures)

pub add_nested-lower-requires : goal.add_nested-lower-requires
add_nested-lower-requires t c =
    nested_lowers c.requires.arms c.requires.kind_value c.block_operand-inner.ensures c.weigh.ensures c.add_block.ensures c.in_ok-a.was

pub add_nested-returns-in_err-a : goal.add_nested-returns-in_err-a
add_nested-returns-in_err-a t c =
    rw (passed c.from_residual.ensures.1)
    (nested_stops c.requires.arms c.requires.kind_value c.block_operand-inner.ensures c.weigh.ensures c.add_block.ensures c.in_err-a.was)

pub add_nested-returns : goal.add_nested-returns
add_nested-returns t c =
    nested_ends c.requires.arms c.requires.kind_value c.block_operand-inner.ensures c.weigh.ensures c.add_block.ensures c.in_ok-a.was c.lower.ensures

pub add_pair-add_block-requires : goal.add_pair-add_block-requires
add_pair-add_block-requires t c = (omega (arith, c.decreases, c.requires.first_lower), pair_first c.requires)

pub add_pair-weigh-requires : goal.add_pair-weigh-requires
add_pair-weigh-requires t c =
    let q9 = pair_weighs c.requires c.args.break_required c.add_block.ensures c.in_ok-a.was in
    record { memory = q9.0; n_in_bounds = q9.1 }

pub add_pair-overflow_add-more : goal.add_pair-overflow_add-more
add_pair-overflow_add-more t c =
    let h = pair_small c.requires c.args.break_required c.add_block.ensures c.in_ok-a.was c.weigh.ensures in omega (arith, h)

pub add_pair-overflow_add-at : goal.add_pair-overflow_add-at
add_pair-overflow_add-at t c =
    omega (arith, (pair_weighs c.requires c.args.break_required c.add_block.ensures c.in_ok-a.was).1.0)

pub add_pair-add_block-requires-2 : goal.add_pair-add_block-requires-2
add_pair-add_block-requires-2 t c =
    (omega (arith, c.decreases, c.requires.second_lower), pair_second c.requires c.args.break_required c.add_block.ensures c.in_ok-a.was c.weigh.ensures)

pub add_pair-returns-in_err-a : goal.add_pair-returns-in_err-a
add_pair-returns-in_err-a t c =
    rw (passed c.from_residual.ensures.1)
    (pair_halt c.requires c.args.break_required c.add_block.ensures c.in_err-a.was)

pub add_pair-returns-in_err-c : goal.add_pair-returns-in_err-c
add_pair-returns-in_err-c t c =
    rw (passed c.from_residual-in_err-c.ensures.1)
    (pair_halt_2 c.requires c.args.break_required c.add_block.ensures c.in_ok-a.was c.weigh.ensures c.add_block-2.ensures c.in_err-c.was)

pub add_pair-returns : goal.add_pair-returns
add_pair-returns t c =
    pair_ends c.requires c.args.break_required c.add_block.ensures c.in_ok-a.was c.weigh.ensures c.add_block-2.ensures c.in_ok-c.was refl

pub add_statement-returns-then-tally-ge-MAX_VISITS : goal.add_statement-returns-then-tally-ge-MAX_VISITS
add_statement-returns-then-tally-ge-MAX_VISITS t c =
    rw c.halt.ensures (visit_17 c.requires c.if-tally-ge-MAX_VISITS.true)

pub add_statement-allowed-requires : goal.add_statement-allowed-requires
add_statement-allowed-requires t c = visit_counting c.requires

pub add_statement-returns-in_err-ok_or : goal.add_statement-returns-in_err-ok_or
add_statement-returns-in_err-ok_or t c =
    rw (refuses _ c.from_residual.ensures.1 c.in_err-ok_or.ensures.value refl, c.halt-2.ensures) (visit_16 c.requires c.if-tally-ge-MAX_VISITS.false c.allowed.ensures (ap is_some c.in_err-ok_or.ensures.ok_part))

pub add_statement-overflow_add-counted : goal.add_statement-overflow_add-counted
add_statement-overflow_add-counted t c = omega (arith, c.if-tally-ge-MAX_VISITS.false)

pub add_statement-add_arm-r-requires : goal.add_statement-add_arm-r-requires
add_statement-add_arm-r-requires t c =
    (omega (arith, c.decreases), visit_arms c.requires c.if-tally-ge-MAX_VISITS.false c.allowed.ensures (ap is_some c.in_ok-ok_or.ensures.ok_part) _ c.statement-row.ensures)

pub add_statement-end_statement-requires : goal.add_statement-end_statement-requires
add_statement-end_statement-requires t c = last_asks _ c.add_arm-r.ensures

pub add_statement-returns : goal.add_statement-returns
add_statement-returns t c =
    visit_ends c.requires c.if-tally-ge-MAX_VISITS.false c.allowed.ensures (ap is_some c.in_ok-ok_or.ensures.ok_part) _ _ c.statement-row.ensures c.add_arm-r.ensures c.end_statement.ensures

pub add_switch-weigh-requires : goal.add_switch-weigh-requires
add_switch-weigh-requires t c =
    let q9 = arm_weighs c.requires.arms in
    record { memory = q9.0; n_in_bounds = q9.1 }

pub add_switch-overflow_add-outside : goal.add_switch-overflow_add-outside
add_switch-overflow_add-outside t c = omega (arith, outside_few c.requires.arms c.weigh.ensures)

pub add_switch-overflow_add-at : goal.add_switch-overflow_add-at
add_switch-overflow_add-at t c = omega (arith, (copy_asks c.requires.arms).1)

pub add_switch-copy_context-requires : goal.add_switch-copy_context-requires
add_switch-copy_context-requires t c = copy_asks c.requires.arms

pub add_switch-loop-k-init : goal.add_switch-loop-k-init
add_switch-loop-k-init t c = cases_begin c.operand-k.ensures

pub add_switch-overflow_add-at-in-loop-k : goal.add_switch-overflow_add-at-in-loop-k
add_switch-overflow_add-at-in-loop-k t c = omega (arith, (copy_asks c.requires.arms).1)

pub add_switch-weigh-requires-in-loop-k : goal.add_switch-weigh-requires-in-loop-k
add_switch-weigh-requires-in-loop-k t c =
    let q9 = weighs (c.loop-k.invariant.by _ _ (began c.requires.arms c.requires.kind_value c.copy_context.ensures c.weigh.ensures)).switched.standing in
    record { memory = q9.0; n_in_bounds = q9.1 }

pub add_switch-overflow_add-held : goal.add_switch-overflow_add-held
add_switch-overflow_add-held t c =
    let G = began c.requires.arms c.requires.kind_value c.copy_context.ensures c.weigh.ensures in omega (arith, held_fits c.requires.arms (c.loop-k.invariant.by _ _ G) c.requires.kind_value G.outside_is c.weigh-in-loop-k.ensures)

pub add_switch-overflow_add-at-in-loop-k-2 : goal.add_switch-overflow_add-at-in-loop-k-2
add_switch-overflow_add-at-in-loop-k-2 t c = omega (arith, (copy_asks c.requires.arms).1)

pub add_switch-add_block-requires : goal.add_switch-add_block-requires
add_switch-add_block-requires t c =
    let G = began c.requires.arms c.requires.kind_value c.copy_context.ensures c.weigh.ensures in (omega (arith, c.decreases, body_lower c.requires.arms (c.loop-k.invariant.by _ _ G) c.requires.kind_value G.outside_is c.weigh-in-loop-k.ensures c.case_body-body.ensures (omega arith)), case_enters c.requires.arms (c.loop-k.invariant.by _ _ G) c.requires.kind_value G.outside_is c.weigh-in-loop-k.ensures c.case_body-body.ensures (omega arith))

pub add_switch-returns-in_err-a : goal.add_switch-returns-in_err-a
add_switch-returns-in_err-a t c =
    let G = began c.requires.arms c.requires.kind_value c.copy_context.ensures c.weigh.ensures in rw (passed c.from_residual.ensures.1) (case_halts c.requires.arms (c.loop-k.invariant.by _ _ G) c.requires.kind_value G.outside_is c.weigh-in-loop-k.ensures c.case_body-body.ensures (omega arith) c.add_block.ensures c.in_err-a.was)

pub add_switch-overflow_add-at-in-loop-k-3 : goal.add_switch-overflow_add-at-in-loop-k-3
add_switch-overflow_add-at-in-loop-k-3 t c = omega (arith, (copy_asks c.requires.arms).1)

pub add_switch-end_case-requires : goal.add_switch-end_case-requires
add_switch-end_case-requires t c =
    let G = began c.requires.arms c.requires.kind_value c.copy_context.ensures c.weigh.ensures in case-ends c.requires.arms (c.loop-k.invariant.by _ _ G) c.requires.kind_value G.outside_is c.weigh-in-loop-k.ensures c.case_body-body.ensures (omega arith) c.add_block.ensures c.in_ok-a.was

pub add_switch-returns-in_err-ok_or : goal.add_switch-returns-in_err-ok_or
add_switch-returns-in_err-ok_or t c =
    let G = began c.requires.arms c.requires.kind_value c.copy_context.ensures c.weigh.ensures in rw (refuses _ c.from_residual-in_err-ok_or.ensures.1 c.in_err-ok_or.ensures.value refl, c.halt.ensures) (case_limit c.requires.arms (c.loop-k.invariant.by _ _ G) c.requires.kind_value G.outside_is c.weigh-in-loop-k.ensures c.case_body-body.ensures (omega arith) c.add_block.ensures c.in_ok-a.was c.end_case.ensures (ap is_none c.in_err-ok_or.ensures.ok_part))

pub add_switch-loop-k-preserved : goal.add_switch-loop-k-preserved
add_switch-loop-k-preserved t c =
    cases_next c.loop-k.invariant c.weigh-in-loop-k.ensures c.case_body-body.ensures (omega arith) c.add_block.ensures c.in_ok-a.was c.end_case.ensures (ap is_none c.in_ok-ok_or.ensures.ok_part) refl

pub add_switch-end_switch-requires : goal.add_switch-end_switch-requires
add_switch-end_switch-requires t c =
    let G = began c.requires.arms c.requires.kind_value c.copy_context.ensures c.weigh.ensures in switch_asks c.requires.arms (c.loop-k.invariant.by _ _ G) c.requires.kind_value c.expression_operand-selector.ensures

pub add_switch-returns : goal.add_switch-returns
add_switch-returns t c =
    let G = began c.requires.arms c.requires.kind_value c.copy_context.ensures c.weigh.ensures in switch_whole c.requires.arms (c.loop-k.invariant.by _ _ G) (omega arith) c.expression_operand-selector.ensures c.end_switch.ensures

pub add_turns-weigh-requires : goal.add_turns-weigh-requires
add_turns-weigh-requires t c =
    let q9 = turns_weigh c.requires in
    record { memory = q9.0; n_in_bounds = q9.1 }

pub add_turns-overflow_add-held : goal.add_turns-overflow_add-held
add_turns-overflow_add-held t c = omega (arith, turns_fit c.requires c.weigh.ensures)

pub add_turns-overflow_add-at : goal.add_turns-overflow_add-at
add_turns-overflow_add-at t c = omega (arith, (turns_weigh c.requires).1.0)

pub add_turns-weigh-requires-2 : goal.add_turns-weigh-requires-2
add_turns-weigh-requires-2 t c =
    let q9 = weighs c.requires.standing in
    record { memory = q9.0; n_in_bounds = q9.1 }

pub add_turns-overflow_add-held-2 : goal.add_turns-overflow_add-held-2
add_turns-overflow_add-held-2 t c = omega (arith, turns_fit_2 c.requires c.weigh.ensures c.weigh-2.ensures)

pub add_turns-loop-left-init : goal.add_turns-loop-left-init
add_turns-loop-left-init t c = turns_begin c.requires

pub add_turns-overflow_add-at-in-loop-left : goal.add_turns-overflow_add-at-in-loop-left
add_turns-overflow_add-at-in-loop-left t c = omega (arith, (weighs c.requires.standing).1.0)

pub add_turns-overflow_add-at-in-loop-left-2 : goal.add_turns-overflow_add-at-in-loop-left-2
add_turns-overflow_add-at-in-loop-left-2 t c = omega (arith, (weighs c.requires.standing).1.0)

pub add_turns-add_pair-requires : goal.add_turns-add_pair-requires
add_turns-add_pair-requires t c =
    (omega (arith, c.decreases), turn_paired c.requires c.weigh.ensures c.weigh-2.ensures c.loop-left.invariant)

pub add_turns-returns-in_err-a : goal.add_turns-returns-in_err-a
add_turns-returns-in_err-a t c =
    rw (passed c.from_residual.ensures.1)
    (turn_halts c.requires c.weigh.ensures c.weigh-2.ensures c.loop-left.invariant (omega arith) c.add_pair.ensures c.in_err-a.was)

pub add_turns-end_turn-requires : goal.add_turns-end_turn-requires
add_turns-end_turn-requires t c =
    turn_walked c.requires c.weigh.ensures c.weigh-2.ensures c.loop-left.invariant (omega arith) c.add_pair.ensures c.in_ok-a.was

pub add_turns-returns-in-Over : goal.add_turns-returns-in-Over
add_turns-returns-in-Over t c =
    rw c.halt.ensures (turn_limits c.requires c.weigh.ensures c.weigh-2.ensures c.loop-left.invariant (omega arith) c.add_pair.ensures c.in_ok-a.was c.end_turn.ensures c.in-Over.is)

pub add_turns-returns-in-Settled : goal.add_turns-returns-in-Settled
add_turns-returns-in-Settled t c =
    turn_settles c.requires c.weigh.ensures c.weigh-2.ensures c.loop-left.invariant (omega arith) c.add_pair.ensures c.in_ok-a.was c.end_turn.ensures c.in-Settled.is

pub add_turns-loop-left-preserved : goal.add_turns-loop-left-preserved
add_turns-loop-left-preserved t c =
    turn_goes_on c.requires c.weigh.ensures c.weigh-2.ensures c.loop-left.invariant (omega arith) c.add_pair.ensures c.in_ok-a.was c.end_turn.ensures c.in-Again.is

pub add_turns-returns : goal.add_turns-returns
add_turns-returns t c =
    rw c.halt-2.ensures (turns_over c.requires c.weigh.ensures c.weigh-2.ensures c.loop-left.invariant (omega arith))
