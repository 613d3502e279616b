-- `arms::ifs::end_if` meets its contract. Assumes nothing.
use mathlib.Core.Path.{refl, ap}
use Rattle.std.specs.Option.{is_none}
use Rattle.request.proofs.Ways.{refuses}
use Rattle.arms.proofs.EndIf.{join-asked, ends_dropped, ends_over, condition_asked, ends_asked}
use Rattle.arms.proofs.ifs.end_if.Goals as goal

pub drop_both-requires : goal.drop_both-requires
drop_both-requires c = (join-asked c.requires.if_asked).1.0.1

pub returns-then-not-required : goal.returns-then-not-required
returns-then-not-required c = ends_dropped c.requires.if_asked c.if-not-required.true c.drop_both.ensures

pub join_up-requires : goal.join_up-requires
join_up-requires c =
    let q9 = join-asked c.requires.if_asked in
    record { memory = q9.0; stack_slot_le_k = q9.1.0; room = q9.1.1 }

pub returns-in_err-ok_or : goal.returns-in_err-ok_or
returns-in_err-ok_or c =
    rw (refuses _ c.from_residual.ensures.1 c.in_err-ok_or.ensures.value refl, c.halt.ensures) (ends_over c.requires.if_asked c.if-not-required.false c.join_up.ensures (ap is_none c.in_err-ok_or.ensures.ok_part))

pub add_expression-r-requires : goal.add_expression-r-requires
add_expression-r-requires c =
    let h = condition_asked c.requires.if_asked c.join_up.ensures (ap is_none c.in_ok-ok_or.ensures.ok_part) in
    record { ready = h.0; e_in_bounds = c.requires.condition_in_bounds; wants = rw c.want_of-w.ensures h.1 }

pub returns : goal.returns
returns c =
    rw c.answer.ensures (ends_asked c.requires.if_asked c.if-not-required.false c.join_up.ensures (ap is_none c.in_ok-ok_or.ensures.ok_part) _ (rw c.want_of-w.ensures at c.add_expression-r.ensures))
