-- `acts::stores::store_at` meets its contract: a place taken out, and one ask (Storing).
use mathlib.Core.Path.{refl}
use Rattle.acts.proofs.Storing.{known_full, known_given, value_full, known_left}
use Rattle.acts.proofs.stores.store_at.Goals as goal

pub invariant_of-types : goal.invariant_of-types
invariant_of-types c = record { lower = c.args.subject.now.given.shapes.lower }

pub take_out-requires : goal.take_out-requires
take_out-requires c =
    record { there = c.args.subject.now.given.of; same = c.args.subject.now.given.values.same; take_given = c.requires.take }

pub returns-in_err-take_out : goal.returns-in_err-take_out
returns-in_err-take_out c =
    rw c.from_residual.ensures
    (known_full c.requires c.in_err-take_out.ensures refl)

pub ask_value-requires : goal.ask_value-requires
ask_value-requires c = known_given c.requires c.in_ok-take_out.ensures refl

pub returns-in_err-ask_value : goal.returns-in_err-ask_value
returns-in_err-ask_value c =
    rw c.from_residual-in_err-ask_value.ensures
    (value_full c.requires c.in_ok-take_out.ensures refl c.in_err-ask_value.ensures refl)

pub returns : goal.returns
returns c =
    known_left c.requires c.in_ok-take_out.ensures refl c.in_ok-ask_value.ensures refl c.copy.ensures
