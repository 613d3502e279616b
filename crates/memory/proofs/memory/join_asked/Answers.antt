-- `memory::memory::join_asked` meets its contract. Assumes nothing.
use Rattle.memory.proofs.Joins.{asked_join, asked-joined}
use Rattle.memory.proofs.memory.join_asked.Goals as goal

pub join_entry-requires : goal.join_entry-requires
join_entry-requires c =
    let q9 = asked_join c.requires c.piece-p.ensures in
    record { good = q9.0; n_bound = q9.1.0; room = q9.1.1 }

pub returns : goal.returns
returns c = asked-joined c.requires c.piece-p.ensures c.join_entry.ensures
