-- `expression::variables::entry` meets its contract. Assumes nothing.
use mathlib.Core.Path.{refl, ap}
use Rattle.std.specs.Option.{is_none}
use Rattle.request.proofs.Ways.{refuses}
use Rattle.expression.proofs.Maps.{is_over, is_mapped, visit_mapping, map_closing, argument_15, argument_ends, local_15, local_ends}
use Rattle.expression.proofs.variables.entry.Goals as goal

pub join-requires : goal.join-requires
join-requires c = visit_mapping c.requires.visiting _ _ c.requires.in_bounds.0 c.requires.in_bounds.1

pub returns-in_err-ok_or : goal.returns-in_err-ok_or
returns-in_err-ok_or c = λ bytes r. record {
  argument = λ z. rw (refuses _ c.from_residual.ensures.1 c.in_err-ok_or.ensures.value refl, c.halt.ensures) (argument_15 c.requires.visiting _ _ (rw z at (is_over c.join.ensures (ap is_none c.in_err-ok_or.ensures.ok_part))) refl refl);
  local = λ z. rw (refuses _ c.from_residual.ensures.1 c.in_err-ok_or.ensures.value refl, c.halt.ensures) (local_15 c.requires.visiting _ _ (rw z at (is_over c.join.ensures (ap is_none c.in_err-ok_or.ensures.ok_part))) refl refl);
}

pub close-requires : goal.close-requires
close-requires c =
    map_closing c.requires.visiting _ _ c.requires.in_bounds.0 (is_mapped c.join.ensures (ap is_none c.in_ok-ok_or.ensures.ok_part))

pub returns : goal.returns
returns c = λ bytes r. record {
  argument = λ z. argument_ends c.requires.visiting _ _ (rw z at (is_mapped c.join.ensures (ap is_none c.in_ok-ok_or.ensures.ok_part))) r c.close.ensures;
  local = λ z. local_ends c.requires.visiting _ _ (rw z at (is_mapped c.join.ensures (ap is_none c.in_ok-ok_or.ensures.ok_part))) r c.close.ensures;
}
