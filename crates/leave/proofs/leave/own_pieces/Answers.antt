-- `own_pieces` meets its contract.
use Rattle.leave.proofs.Leaving.{weigh_own, own_is}
use Rattle.leave.proofs.leave.own_pieces.Goals as goal

pub weigh-requires : goal.weigh-requires
weigh-requires c =
    let q9 = weigh_own c.records_of-own.ensures c.requires.memory.0 c.requires.memory.1 c.requires.f_bound in
    record { memory = q9.0; n_in_bounds = q9.1 }

pub returns : goal.returns
returns c = own_is c.records_of-own.ensures c.args.cells.now c.args.slots.now _ c.weigh.ensures
