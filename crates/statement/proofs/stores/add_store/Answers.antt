-- `statement::stores::add_store` meets its contract. Assumes nothing.
use Rattle.state.proofs.Ends.{passed}
use Rattle.statement.proofs.Fields.{store_aims, store_refuses, store_unneeded, store-fields, store_asks}
use Rattle.statement.proofs.stores.add_store.Goals as goal

pub store-requires : goal.store-requires
store-requires c = store_aims c.requires.arm c.requires.store_kind 0 c.store_fields-x.ensures

pub ask_fields-r-requires : goal.ask_fields-r-requires
ask_fields-r-requires c =
    store-fields c.requires.arm c.requires.store_kind 0 c.store_fields-x.ensures c.store.ensures c.in_ok-needed.was c.if-not-needed.false

pub returns-in_err-needed : goal.returns-in_err-needed
returns-in_err-needed c =
    rw (passed c.from_residual.ensures.1)
    (store_refuses c.requires.arm c.requires.store_kind _ c.store_fields-x.ensures c.store.ensures c.in_err-needed.was)

pub returns-then-not-needed : goal.returns-then-not-needed
returns-then-not-needed c =
    store_unneeded c.requires.arm c.requires.store_kind _ c.store_fields-x.ensures c.store.ensures c.in_ok-needed.was c.if-not-needed.true

pub returns : goal.returns
returns c =
    store_asks c.requires.arm c.requires.store_kind _ c.store_fields-x.ensures c.store.ensures c.in_ok-needed.was c.if-not-needed.false c.ask_fields-r.ensures c.answer.ensures
