-- `reading::record::mark_next` meets its contract: by whether the mark is in its place, and how the function before it ends.
use mathlib.Core.Path.{refl}
use Rattle.std.proofs.lemmas.Result.{err_from_is_err_and}
use Rattle.reading.proofs.Stepping.{elsewhere, ends_wrong, begun, then_body}
use Rattle.reading.proofs.record.mark_next.Goals as goal

pub returns-in_err-d-clause-step : goal.returns-in_err-d-clause-step
returns-in_err-d-clause-step c =
    let p = err_from_is_err_and c.from_residual.result c.from_residual.ensures.1 in
    rw (p.1, p.2) (ends_wrong _ _ _ _ _ _ c.placed.ensures _ c.requires.between c.if-placed.true _ _ c.in_err-d.ensures.value c.in_err-d.ensures.t_after _ refl)

pub body_next-requires : goal.body_next-requires
body_next-requires c =
    begun _ _ _ _ _ _ c.placed.ensures _ c.requires.between c.if-placed.true _ _ c.in_ok-d.ensures.value c.in_ok-d.ensures.t_after _ refl c.requires.at_in_bounds

pub returns-then-placed-clause-step : goal.returns-then-placed-clause-step
returns-then-placed-clause-step c =
    then_body _ _ _ _ _ _ c.placed.ensures _ c.requires.between c.if-placed.true _ _ c.in_ok-d.ensures.value c.in_ok-d.ensures.t_after _ refl _ _ _ c.body_next.ensures

pub returns-clause-step : goal.returns-clause-step
returns-clause-step c = elsewhere _ _ _ _ _ _ c.placed.ensures _ c.if-placed.false
