-- `statement::store::store` meets its contract. Assumes nothing.
use Rattle.state.proofs.Ends.{passed}
use Rattle.statement.proofs.Storing.{store_none, store_takes, store_stops, store_goes}
use Rattle.statement.proofs.store.store.Goals as goal

pub take-requires : goal.take-requires
take-requires c =
    store_takes c.requires c.target_of.ensures c.in_ok-aim.was c.in-Some.is

pub returns-in-None : goal.returns-in-None
returns-in-None c = store_none c.requires c.target_of.ensures c.in_ok-aim.was c.in-None.is

pub returns-in_err-take-in-Some : goal.returns-in_err-take-in-Some
returns-in_err-take-in-Some c =
    rw (passed c.from_residual-in_err-take-in-Some.ensures.1)
    (store_stops c.requires c.target_of.ensures c.in_ok-aim.was c.in-Some.is c.take.ensures c.in_err-take-in-Some.was)

pub returns-in_ok-take-in-Some : goal.returns-in_ok-take-in-Some
returns-in_ok-take-in-Some c =
    store_goes c.requires c.target_of.ensures c.in_ok-aim.was c.in-Some.is c.take.ensures c.in_ok-take-in-Some.was
