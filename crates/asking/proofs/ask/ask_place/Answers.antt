-- `asking::ask::ask_place` meets its contract.
use mathlib.Core.Path.{refl, sym, ◌∙◌}
use Rattle.asking.proofs.Steps.{asks_none, first_full, second_full, asks_sum}
use Rattle.asking.proofs.ask.ask_place.Goals as goal

pub returns-then-not-is_wanted : goal.returns-then-not-is_wanted
returns-then-not-is_wanted c = asks_none c.requires (sym c.is_wanted.ensures ∙ c.if-not-is_wanted.true)

pub returns-in_err-push : goal.returns-in_err-push
returns-in_err-push c =
    rw c.from_residual.ensures
    (first_full c.requires c.under-u.ensures (sym c.is_wanted.ensures ∙ c.if-not-is_wanted.false) c.in_err-push.ensures refl)

pub returns-in_err-push_sum : goal.returns-in_err-push_sum
returns-in_err-push_sum c =
    rw c.from_residual-in_err-push_sum.ensures
    (second_full c.requires c.under-u.ensures (sym c.is_wanted.ensures ∙ c.if-not-is_wanted.false) c.in_ok-push.ensures refl c.in_err-push_sum.ensures refl)

pub returns : goal.returns
returns c =
    asks_sum c.requires c.under-u.ensures (sym c.is_wanted.ensures ∙ c.if-not-is_wanted.false) c.in_ok-push.ensures refl c.in_ok-push_sum.ensures refl c.copy.ensures
