-- `forms::place::take_place` meets its contract: the entry of the frame, the entry of the map, and on both levels the entries with one changed.
use mathlib.Core.Path.{refl}
use Rattle.std.proofs.lemmas.List.{take_rest}
use Rattle.forms.proofs.Places.{framed_by, map_gone, map_there, value_gone, value_there, form_asks, out_asks, value_asks, map_asks, place_left}
use Rattle.forms.proofs.place.take_place.Goals as goal

pub returns-in_default : goal.returns-in_default
returns-in_default c =
    map_gone (c.requires.good, ((framed_by c.requires.there c.requires.same, c.requires.rooted), (c.requires.n_bound, (c.requires.need, c.requires.room)))) refl c.get.result c.get.ensures c.in_default.is

pub returns-in_default-get : goal.returns-in_default-get
returns-in_default-get c =
    value_gone (c.requires.good, ((framed_by c.requires.there c.requires.same, c.requires.rooted), (c.requires.n_bound, (c.requires.need, c.requires.room)))) (map_there (c.requires.good, ((framed_by c.requires.there c.requires.same, c.requires.rooted), (c.requires.n_bound, (c.requires.need, c.requires.room)))) refl c.get.result c.get.ensures c.in-Some.is) refl refl c.get-2.result c.get-2.ensures c.in_default-get.is

pub place_form-form-requires : goal.place_form-form-requires
place_form-form-requires c =
    let q9 = form_asks (c.requires.good, ((framed_by c.requires.there c.requires.same, c.requires.rooted), (c.requires.n_bound, (c.requires.need, c.requires.room)))) (map_there (c.requires.good, ((framed_by c.requires.there c.requires.same, c.requires.rooted), (c.requires.n_bound, (c.requires.need, c.requires.room)))) refl c.get.result c.get.ensures c.in-Some.is) refl refl (value_there (c.requires.good, ((framed_by c.requires.there c.requires.same, c.requires.rooted), (c.requires.n_bound, (c.requires.need, c.requires.room)))) (map_there (c.requires.good, ((framed_by c.requires.there c.requires.same, c.requires.rooted), (c.requires.n_bound, (c.requires.need, c.requires.room)))) refl c.get.result c.get.ensures c.in-Some.is) refl refl c.get-2.result c.get-2.ensures c.in-Some-get.is) in
    record { there = c.requires.there; same = c.requires.same; fact = q9.0; k_bound = q9.1 }

pub take_out-d-requires : goal.take_out-d-requires
take_out-d-requires c =
    let q9 = out_asks (c.requires.good, ((framed_by c.requires.there c.requires.same, c.requires.rooted), (c.requires.n_bound, (c.requires.need, c.requires.room)))) (map_there (c.requires.good, ((framed_by c.requires.there c.requires.same, c.requires.rooted), (c.requires.n_bound, (c.requires.need, c.requires.room)))) refl c.get.result c.get.ensures c.in-Some.is) refl refl (value_there (c.requires.good, ((framed_by c.requires.there c.requires.same, c.requires.rooted), (c.requires.n_bound, (c.requires.need, c.requires.room)))) (map_there (c.requires.good, ((framed_by c.requires.there c.requires.same, c.requires.rooted), (c.requires.n_bound, (c.requires.need, c.requires.room)))) refl c.get.result c.get.ensures c.in-Some.is) refl refl c.get-2.result c.get-2.ensures c.in-Some-get.is) _ c.place_form-form.ensures in
    record { good = q9.0; narrow = q9.1.0; p_bound = q9.1.1.0; room = rw (take_rest c.args.path.now 2) q9.1.1.1 }

pub change_entry-e-requires : goal.change_entry-e-requires
change_entry-e-requires c =
    let q9 = value_asks (c.requires.good, ((framed_by c.requires.there c.requires.same, c.requires.rooted), (c.requires.n_bound, (c.requires.need, c.requires.room)))) (map_there (c.requires.good, ((framed_by c.requires.there c.requires.same, c.requires.rooted), (c.requires.n_bound, (c.requires.need, c.requires.room)))) refl c.get.result c.get.ensures c.in-Some.is) refl refl (value_there (c.requires.good, ((framed_by c.requires.there c.requires.same, c.requires.rooted), (c.requires.n_bound, (c.requires.need, c.requires.room)))) (map_there (c.requires.good, ((framed_by c.requires.there c.requires.same, c.requires.rooted), (c.requires.n_bound, (c.requires.need, c.requires.room)))) refl c.get.result c.get.ensures c.in-Some.is) refl refl c.get-2.result c.get-2.ensures c.in-Some-get.is) _ c.place_form-form.ensures (rw (take_rest c.args.path.now 2) at c.take_out-d.ensures) in
    record { good = q9.0; p_bound = q9.1.0; room = q9.1.1 }

pub change_entry-requires : goal.change_entry-requires
change_entry-requires c =
    let q9 = map_asks (c.requires.good, ((framed_by c.requires.there c.requires.same, c.requires.rooted), (c.requires.n_bound, (c.requires.need, c.requires.room)))) (map_there (c.requires.good, ((framed_by c.requires.there c.requires.same, c.requires.rooted), (c.requires.n_bound, (c.requires.need, c.requires.room)))) refl c.get.result c.get.ensures c.in-Some.is) refl refl (value_there (c.requires.good, ((framed_by c.requires.there c.requires.same, c.requires.rooted), (c.requires.n_bound, (c.requires.need, c.requires.room)))) (map_there (c.requires.good, ((framed_by c.requires.there c.requires.same, c.requires.rooted), (c.requires.n_bound, (c.requires.need, c.requires.room)))) refl c.get.result c.get.ensures c.in-Some.is) refl refl c.get-2.result c.get-2.ensures c.in-Some-get.is) _ c.place_form-form.ensures (rw (take_rest c.args.path.now 2) at c.take_out-d.ensures) c.change_entry-e.ensures in
    record { good = q9.0; p_bound = q9.1.0; room = q9.1.1 }

pub returns : goal.returns
returns c =
    place_left (c.requires.good, ((framed_by c.requires.there c.requires.same, c.requires.rooted), (c.requires.n_bound, (c.requires.need, c.requires.room)))) (map_there (c.requires.good, ((framed_by c.requires.there c.requires.same, c.requires.rooted), (c.requires.n_bound, (c.requires.need, c.requires.room)))) refl c.get.result c.get.ensures c.in-Some.is) refl refl (value_there (c.requires.good, ((framed_by c.requires.there c.requires.same, c.requires.rooted), (c.requires.n_bound, (c.requires.need, c.requires.room)))) (map_there (c.requires.good, ((framed_by c.requires.there c.requires.same, c.requires.rooted), (c.requires.n_bound, (c.requires.need, c.requires.room)))) refl c.get.result c.get.ensures c.in-Some.is) refl refl c.get-2.result c.get-2.ensures c.in-Some-get.is) _ c.place_form-form.ensures (rw (take_rest c.args.path.now 2) at c.take_out-d.ensures) c.change_entry-e.ensures c.change_entry.ensures
