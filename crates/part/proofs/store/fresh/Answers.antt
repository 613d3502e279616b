-- `fresh` meets its contract.
use Rattle.part.proofs.Write.{made_fresh, found_fresh}
use Rattle.part.proofs.Measures.{small, packed_small, byte_is}
use native.Mathlib.Omega.{arith}
use Rattle.part.proofs.store.fresh.Goals as goal

pub returns-in-Some : goal.returns-in-Some
returns-in-Some c = found_fresh c.requires.good c.in-Some.ensures

pub sizes_of-m-requires : goal.sizes_of-m-requires
sizes_of-m-requires c =
    let p = small c.requires.good c.requires.child_bound.0 c.measure-p.ensures in
    let r = small c.requires.good c.requires.child_bound.1 c.measure-r.ensures in
    record { entries_le_entries_cap = (p.entries_small, r.entries_small); depth_le_store_words = (p.depth_small, r.width_small) }

pub overflow_mul-m : goal.overflow_mul-m
overflow_mul-m c =
    omega (arith, packed_small c.requires.good c.requires.child_bound.1 c.measure-p.ensures c.measure-r.ensures c.sizes_of-m.ensures)

pub overflow_add-m : goal.overflow_add-m
overflow_add-m c =
    omega (arith, packed_small c.requires.good c.requires.child_bound.1 c.measure-p.ensures c.measure-r.ensures c.sizes_of-m.ensures)

pub returns : goal.returns
returns c =
    made_fresh c.requires.good c.requires.room c.requires.child_bound.0 c.requires.child_bound.1 c.in_default.ensures c.measure-p.ensures c.measure-r.ensures c.sizes_of-m.ensures (rw (c.from.ensures, byte_is) at c.put.ensures) c.link.ensures
