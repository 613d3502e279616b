-- `asks::fields::want_by` meets its contract. Assumes nothing.
use mathlib.Core.Path.{refl}
use mathlib.Core.Logic.{inl, inr}
use Rattle.asks.specs.Ways.{part_by}
use Rattle.asks.proofs.FieldAsks.{wants_all, wants_exist}
use Rattle.asks.proofs.fields.want_by.Goals as goal

pub returns-in-Part : goal.returns-in-Part
unfolding part_by
returns-in-Part c = rw c.in-Part.is (record { wants = c.requires.1; is = refl })

pub returns-in-Exist : goal.returns-in-Exist
unfolding part_by
returns-in-Exist c = rw c.in-Exist.is (wants_exist c.requires.0 c.want_of.ensures)

pub returns-in-Skip : goal.returns-in-Skip
unfolding part_by
returns-in-Skip c = let all = wants_all c.requires.0 c.want_of-in-Skip.ensures in
    elim c.in-Skip.is [
      | inl e ↦ rw e all
      | inr (inl e) ↦ rw e all
      | inr (inr e) ↦ rw e all
    ]
