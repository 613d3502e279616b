-- `arms::loops::ask_break_if` meets its contract.
use Rattle.access.proofs.Optional.{no_handle, handle_is}
use Rattle.block.proofs.Paired.{weighs}
use Rattle.arms.proofs.Passes.{first_weighs, break_absent, break_fits, break_asks, break_asked}
use native.Mathlib.Omega.{arith}
use Rattle.arms.proofs.loops.ask_break_if.Goals as goal

pub returns-in_default : goal.returns-in_default
returns-in_default c = break_absent c.requires (no_handle c.in_default.is)

pub weigh-first-requires : goal.weigh-first-requires
weigh-first-requires c =
    let q9 = first_weighs c.requires in
    record { memory = q9.0; n_in_bounds = q9.1 }

pub weigh-second-requires : goal.weigh-second-requires
weigh-second-requires c =
    let q9 = weighs c.requires.branched.standing in
    record { memory = q9.0; n_in_bounds = q9.1 }

pub overflow_add-v : goal.overflow_add-v
overflow_add-v c =
    let h = break_fits c.requires c.weigh-first.ensures c.weigh-second.ensures in omega (arith, h.0)

pub overflow_add-v-2 : goal.overflow_add-v-2
overflow_add-v-2 c =
    let h = break_fits c.requires c.weigh-first.ensures c.weigh-second.ensures in omega (arith, h.1)

pub add_expression-requires : goal.add_expression-requires
add_expression-requires c =
    let q9 = break_asks c.requires c.weigh-first.ensures c.weigh-second.ensures (handle_is c.in-Some.is) c.want_of-w.ensures in
    record { ready = q9.0; e_in_bounds = q9.1.0; wants = q9.1.1 }

pub returns : goal.returns
returns c =
    break_asked c.requires c.weigh-first.ensures c.weigh-second.ensures (handle_is c.in-Some.is) c.want_of-w.ensures c.add_expression.ensures
