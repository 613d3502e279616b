-- `arms::loops::end_pass` meets its contract.
use mathlib.Core.Path.{refl, ap}
use Rattle.std.specs.Option.{is_none}
use Rattle.request.proofs.Ways.{refuses}
use Rattle.state.proofs.Ends.{passed}
use Rattle.arms.proofs.Passes.{pass_halts, pass_join, pass_limit, pass_tidy, pass_went}
use Rattle.arms.proofs.loops.end_pass.Goals as goal

pub join-requires : goal.join-requires
join-requires c =
    let q9 = pass_join c.requires c.ask_break_if.ensures c.in_ok-tally.was in
    record { memory = q9.0; stack_slot_le_k = q9.1.0; room = q9.1.1 }

pub returns-in_err-ok_or : goal.returns-in_err-ok_or
returns-in_err-ok_or c =
    rw (refuses _ c.from_residual-in_err-ok_or.ensures.1 c.in_err-ok_or.ensures.value refl, c.halt.ensures) (pass_limit c.requires c.ask_break_if.ensures c.in_ok-tally.was c.join.ensures (ap is_none c.in_err-ok_or.ensures.ok_part))

pub tidy-requires : goal.tidy-requires
tidy-requires c =
    let q9 = pass_tidy c.requires c.ask_break_if.ensures c.in_ok-tally.was c.join.ensures (ap is_none c.in_ok-ok_or.ensures.ok_part) in
    record { memory = q9.0; slots_bound = q9.1 }

pub returns-in_err-tally : goal.returns-in_err-tally
returns-in_err-tally c =
    rw (passed c.from_residual.ensures.1) (pass_halts c.requires c.ask_break_if.ensures c.in_err-tally.was)

pub returns : goal.returns
returns c =
    pass_went c.requires c.ask_break_if.ensures c.in_ok-tally.was c.join.ensures (ap is_none c.in_ok-ok_or.ensures.ok_part) c.tidy.ensures
