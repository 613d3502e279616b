-- `acts::stores::store_somewhere` meets its contract: a copy of the needs, and asks (Storing).
use mathlib.Core.Path.{refl}
use Rattle.acts.proofs.Storing.{indexes_given, indexes_full, stored_given, stored_full, somewhere_left}
use Rattle.acts.proofs.stores.store_somewhere.Goals as goal

pub ask_indexes-requires : goal.ask_indexes-requires
ask_indexes-requires c =
    indexes_given c.args.pointer.now c.requires c.copy.ensures

pub returns-in_err-ask_indexes : goal.returns-in_err-ask_indexes
returns-in_err-ask_indexes c =
    rw c.from_residual.ensures
    (indexes_full c.args.pointer.now c.requires c.copy.ensures c.in_err-ask_indexes.ensures refl)

pub ask_value-requires : goal.ask_value-requires
ask_value-requires c = stored_given c.args.pointer.now c.requires c.copy.ensures c.in_ok-ask_indexes.ensures refl

pub returns-in_err-ask_value : goal.returns-in_err-ask_value
returns-in_err-ask_value c =
    rw c.from_residual-in_err-ask_value.ensures
    (stored_full c.args.pointer.now c.requires c.copy.ensures c.in_ok-ask_indexes.ensures refl c.in_err-ask_value.ensures refl)

pub returns : goal.returns
returns c =
    somewhere_left c.args.pointer.now c.requires c.copy.ensures c.in_ok-ask_indexes.ensures refl c.in_ok-ask_value.ensures refl c.copy-2.ensures
