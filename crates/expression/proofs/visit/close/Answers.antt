-- `expression::visit::close` meets its contract. Assumes nothing.
use mathlib.Core.Path.{refl, ap}
use Rattle.std.specs.Option.{is_some}
use Rattle.request.proofs.Ways.{refuses}
use Rattle.expression.proofs.Visits.{close_note, close_counting, closed, closed_16}
use native.Mathlib.Omega.{arith}
use Rattle.expression.proofs.visit.close.Goals as goal

pub overflow_add-number : goal.overflow_add-number
overflow_add-number c = let h = close_note c.requires c.expression_number-number.ensures in omega (arith, h.high)

pub note-sum-requires : goal.note-sum-requires
note-sum-requires c = close_note c.requires c.expression_number-number.ensures

pub allowed-requires : goal.allowed-requires
allowed-requires c = close_counting c.requires c.expression_number-number.ensures c.note-sum.ensures

pub returns-in_err-ok_or : goal.returns-in_err-ok_or
returns-in_err-ok_or c =
    λ bytes r. rw (refuses _ c.from_residual.ensures.1 c.in_err-ok_or.ensures.value refl, c.halt.ensures) (closed_16 c.requires c.expression_number-number.ensures c.note-sum.ensures r _ c.allowed.ensures (ap is_some c.in_err-ok_or.ensures.ok_part) refl refl)

pub returns : goal.returns
returns c =
    λ bytes r. closed c.requires c.expression_number-number.ensures c.note-sum.ensures r _ c.allowed.ensures (ap is_some c.in_ok-ok_or.ensures.ok_part)
