-- `arms::switch::end_switch` meets its contract: the joined cases are forgotten, or put aside while the selector is asked.
use Rattle.state.proofs.Ends.{passed}
use Rattle.arms.proofs.Switching.{aside_asks, selector_asks, back_asks, switch_drops, switch_halts, switch_takes}
use native.Mathlib.Omega.{arith}
use Rattle.arms.proofs.switch.end_switch.Goals as goal

pub drop-requires : goal.drop-requires
drop-requires c = omega (arith, c.requires.switched.standing.ready.high)

pub returns-then-not-required : goal.returns-then-not-required
returns-then-not-required c = switch_drops _ c.if-not-required.true c.drop.ensures

pub put_aside-requires : goal.put_aside-requires
put_aside-requires c = aside_asks c.requires.switched

pub drop-requires-2 : goal.drop-requires-2
drop-requires-2 c = omega (arith, c.requires.switched.standing.ready.high, c.put_aside.ensures.stored.long)

pub add_expression-requires : goal.add_expression-requires
add_expression-requires c =
    let h = selector_asks c.requires.switched c.put_aside.ensures c.drop-2.ensures in
    record { ready = h.0; e_in_bounds = c.requires.there; wants = rw c.want_of-w.ensures h.1 }

pub take_back-requires : goal.take_back-requires
take_back-requires c =
    let q9 = back_asks c.requires.switched c.put_aside.ensures c.drop-2.ensures _ (rw c.want_of-w.ensures at c.add_expression.ensures) c.in_ok-tally.was in
    record { memory = q9.0; stack_slot_le_k = q9.1 }

pub returns-in_err-tally : goal.returns-in_err-tally
returns-in_err-tally c =
    rw (passed c.from_residual.ensures.1)
    (switch_halts _ c.if-not-required.false c.put_aside.ensures c.drop-2.ensures (rw c.want_of-w.ensures at c.add_expression.ensures) c.in_err-tally.was)

pub returns : goal.returns
returns c =
    switch_takes _ c.if-not-required.false c.put_aside.ensures c.drop-2.ensures (rw c.want_of-w.ensures at c.add_expression.ensures) c.in_ok-tally.was c.take_back.ensures
