-- `count` meets its contract.
use Rattle.part.proofs.Exactly.{maps_asked, walk_asked, add-asked, rebuild_asks, counted}
use Rattle.part.proofs.exact.count.Goals as goal

pub mark_roots-requires : goal.mark_roots-requires
mark_roots-requires c =
    let q9 = maps_asked c.args.maps.now c.requires.good c.requires.below c.clear.ensures in
    record { formed = q9.0; below = q9.1 }

pub mark_down-requires : goal.mark_down-requires
mark_down-requires c =
    walk_asked c.args.maps.now c.requires.good c.requires.below c.clear.ensures c.mark_roots.ensures.mapped

pub add_up-n-requires : goal.add_up-n-requires
add_up-n-requires c =
    add-asked c.args.maps.now c.requires.good c.requires.below c.clear.ensures c.mark_roots.ensures.mapped c.mark_down.ensures.walked

pub rebuild-requires : goal.rebuild-requires
rebuild-requires c =
    let q9 = rebuild_asks c.args.maps.now c.requires.good c.requires.below c.clear.ensures c.mark_roots.ensures.mapped c.mark_down.ensures.walked in
    record { formed = q9.0; distinct = q9.1 }

pub returns : goal.returns
returns c =
    counted c.args.maps.now c.requires.good c.requires.below c.clear.ensures c.mark_roots.ensures.mapped c.mark_down.ensures.walked c.add_up-n.ensures c.rebuild.ensures
