-- `asks::fields::chosen` meets its contract. Assumes nothing.
use mathlib.Core.Path.{◌∙◌}
use mathlib.Core.Logic.{inl, inr}
use Rattle.access.specs.Access.{handle_in}
use Rattle.asks.specs.Ways.{asks_by}
use Rattle.asks.proofs.FieldAsks.{maybe_is}
use Rattle.asks.proofs.fields.chosen.Goals as goal

pub returns-in-Skip : goal.returns-in-Skip
unfolding handle_in asks_by
returns-in-Skip c = rw c.in-Skip.is

pub returns-in-Maybe : goal.returns-in-Maybe
unfolding asks_by
returns-in-Maybe c = rw c.in-Maybe.is (c.optional_expression.ensures ∙ maybe_is _)

pub returns-in-Part : goal.returns-in-Part
unfolding handle_in asks_by
returns-in-Part c =
    elim c.in-Part.is [
      | inl e ↦ rw (e, c.expression_operand.ensures)
      | inr (inl e) ↦ rw (e, c.expression_operand.ensures)
      | inr (inr e) ↦ rw (e, c.expression_operand.ensures)
    ]
