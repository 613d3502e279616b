-- `forms::take::take_out` meets its contract. The measure is what is left of the path.
use Rattle.std.proofs.lemmas.List.{nil_from_length}
use Rattle.forms.proofs.Taking.{out_end, all_asks, out_all, out_whole, out_gone, out_call, entry-asks, out_left}
use Rattle.forms.proofs.take.+take_out.Goals as goal

pub returns-in_default : goal.returns-in_default
returns-in_default t c = out_end _ _ (c.requires.good, (c.requires.narrow, (c.requires.p_bound, c.requires.room))) (nil_from_length _ c.in_default.ensures.cases)

pub take_all-requires : goal.take_all-requires
take_all-requires t c =
    let q9 = all_asks _ _ (c.requires.good, (c.requires.narrow, (c.requires.p_bound, c.requires.room))) in
    record { good = q9.0; narrow = q9.1.0; room = q9.1.1 }

pub returns-then-p-eq-ALL_PIECE : goal.returns-then-p-eq-ALL_PIECE
returns-then-p-eq-ALL_PIECE t c = out_all _ _ (c.requires.good, (c.requires.narrow, (c.requires.p_bound, c.requires.room))) c.if-p-eq-ALL_PIECE.true c.take_all.ensures

pub returns-then-is_whole : goal.returns-then-is_whole
returns-then-is_whole t c = out_whole _ _ (c.requires.good, (c.requires.narrow, (c.requires.p_bound, c.requires.room))) c.in-Some.ensures.cases.0 c.is_whole.ensures c.if-is_whole.true

pub get-requires : goal.get-requires
get-requires t c = record { good = c.requires.good; a_bound = c.requires.p_bound.0 }

pub returns-in_default-get : goal.returns-in_default-get
returns-in_default-get t c = out_gone _ _ (c.requires.good, (c.requires.narrow, (c.requires.p_bound, c.requires.room))) c.in-Some.ensures.cases.0 c.is_whole.ensures c.if-is_whole.false c.if-p-eq-ALL_PIECE.false c.get.result c.in_default-get.is c.get.ensures

pub take_out-d-requires : goal.take_out-d-requires
take_out-d-requires t c = out_call _ _ (c.requires.good, (c.requires.narrow, (c.requires.p_bound, c.requires.room))) c.in-Some.ensures.cases.0 c.is_whole.ensures c.if-is_whole.false c.if-p-eq-ALL_PIECE.false _ c.member-m.ensures c.get.result c.in-Some-get.is c.get.ensures c.decreases

pub change_entry-requires : goal.change_entry-requires
change_entry-requires t c =
    let q9 = entry-asks _ _ (c.requires.good, (c.requires.narrow, (c.requires.p_bound, c.requires.room))) c.in-Some.ensures.cases.0 c.is_whole.ensures c.if-is_whole.false c.if-p-eq-ALL_PIECE.false _ c.member-m.ensures c.get.result c.in-Some-get.is c.get.ensures c.take_out-d.ensures in
    record { good = q9.0; p_bound = q9.1.0; room = q9.1.1 }

pub returns : goal.returns
returns t c = out_left _ _ (c.requires.good, (c.requires.narrow, (c.requires.p_bound, c.requires.room))) c.in-Some.ensures.cases.0 c.is_whole.ensures c.if-is_whole.false c.if-p-eq-ALL_PIECE.false _ c.member-m.ensures c.get.result c.in-Some-get.is c.get.ensures c.take_out-d.ensures c.change_entry.ensures
