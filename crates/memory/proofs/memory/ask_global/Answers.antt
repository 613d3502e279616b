-- `memory::memory::ask_global` meets its contract. Assumes nothing.
use Rattle.memory.proofs.Joins.{first_put, first_totalled, later_join, later_put, later_totalled}
use Rattle.memory.proofs.memory.ask_global.Goals as goal

pub put-m-requires : goal.put-m-requires
put-m-requires c =
    first_put c.requires c.piece-p.ensures c.get-f.ensures c.in-None.is c.insert-d.ensures c.insert-t.ensures

pub join_entry-t-requires : goal.join_entry-t-requires
join_entry-t-requires c =
    let q9 = later_join c.requires c.piece-p.ensures c.get-f.ensures c.in-Some.is in
    record { good = q9.0; n_bound = q9.1.0; room = q9.1.1 }

pub put-m-requires-in-Some : goal.put-m-requires-in-Some
put-m-requires-in-Some c =
    later_put c.requires c.piece-p.ensures c.get-f.ensures c.in-Some.is c.join_entry-t.ensures

pub returns-in-None : goal.returns-in-None
returns-in-None c =
    first_totalled c.requires c.piece-p.ensures c.get-f.ensures c.in-None.is c.insert-d.ensures c.insert-t.ensures c.put-m.ensures

pub returns-in-Some : goal.returns-in-Some
returns-in-Some c =
    later_totalled c.requires c.piece-p.ensures c.get-f.ensures c.in-Some.is c.join_entry-t.ensures c.put-m-in-Some.ensures
