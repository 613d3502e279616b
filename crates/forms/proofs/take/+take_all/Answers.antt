-- `forms::take::take_all` meets its contract. The measure is what is left of the path.
use Rattle.std.proofs.lemmas.List.{nil_from_length}
use Rattle.forms.proofs.Taking.{parted_one, parted_into, all_end, all_one, all_call, around_asks, all_left}
use Rattle.forms.proofs.take.+take_all.Goals as goal

pub returns-in_default : goal.returns-in_default
returns-in_default t c = all_end _ _ (c.requires.good, (c.requires.narrow, c.requires.room)) (nil_from_length _ c.in_default.ensures.cases)

pub returns-in_default-split : goal.returns-in_default-split
returns-in_default-split t c = all_one _ _ (c.requires.good, (c.requires.narrow, c.requires.room)) c.in-Some.ensures.cases.0 (parted_one _ c.split.result c.in_default-split.is c.split.ensures)

pub take_all-d-requires : goal.take_all-d-requires
take_all-d-requires t c = all_call _ _ (c.requires.good, (c.requires.narrow, c.requires.room)) c.in-Some.ensures.cases.0 _ c.member-m.ensures c.decreases

pub members_around-requires : goal.members_around-requires
members_around-requires t c =
    let q9 = around_asks _ _ (c.requires.good, (c.requires.narrow, c.requires.room)) c.in-Some.ensures.cases.0 _ c.member-m.ensures (parted_into _ c.split.result c.in-Some-split.is c.split.ensures) c.take_all-d.ensures in
    record { good = q9.0; room = q9.1 }

pub returns : goal.returns
returns t c =
    all_left _ _ (c.requires.good, (c.requires.narrow, c.requires.room)) c.in-Some.ensures.cases.0 _ c.member-m.ensures (parted_into _ c.split.result c.in-Some-split.is c.split.ensures) c.take_all-d.ensures c.members_around.ensures
