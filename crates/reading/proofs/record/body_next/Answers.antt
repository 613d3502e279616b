-- `reading::record::body_next` meets its contract: a limit that is passed, values that are not allowed, or the record is added.
use mathlib.Core.Path.{refl}
use Rattle.reading.proofs.Stepping.{begun_fits, stamps_fit, too_many, not_allowed, goes}
use Rattle.reading.proofs.record.body_next.Goals as goal

pub returns-then-over : goal.returns-then-over
returns-then-over c = too_many _ _ _ _ _ _ c.over.ensures _ c.if-over.true

pub fine-requires : goal.fine-requires
fine-requires c = record { fresh = c.requires.unseen; at_bound = stamps_fit _ c.requires }

pub add-requires : goal.add-requires
add-requires c = begun_fits _ c.requires

pub returns-in_default : goal.returns-in_default
returns-in_default c =
    not_allowed _ _ _ _ _ _ c.over.ensures _ (rw c.in_default.is at c.fine.ensures.value) c.if-over.false _ refl

pub returns : goal.returns
returns c =
    goes _ _ _ _ _ _ c.over.ensures _ (rw c.in-Some.is at c.fine.ensures.value) c.if-over.false _ c.requires refl _ _ _ c.fine.ensures.stamped c.add.ensures.t_after c.add.ensures.value
