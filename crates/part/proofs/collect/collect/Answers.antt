-- `collect` meets its contract.
use Rattle.part.specs.Store.{distinct_in}
use Rattle.part.proofs.Once.{formed}
use Rattle.part.proofs.Slides.{roots_asked, down_asked, slide_asks, turn_asked, collected, rebuild_asked}
use Rattle.part.proofs.collect.collect.Goals as goal

pub mark_roots-requires : goal.mark_roots-requires
mark_roots-requires c =
    let q9 = roots_asked c.args.roots.now (formed c.requires.good) c.requires.below c.clear.ensures in
    record { formed = q9.0; below = q9.1 }

pub mark_down-requires : goal.mark_down-requires
mark_down-requires c =
    down_asked c.args.roots.now (formed c.requires.good) c.requires.below c.clear.ensures c.mark_roots.ensures.rooted

pub slide-used-requires : goal.slide-used-requires
slide-used-requires c =
    let q9 = slide_asks c.args.roots.now (formed c.requires.good) c.requires.below c.clear.ensures c.mark_roots.ensures.rooted c.mark_down.ensures.marking in
    record { formed = q9.0; closed = q9.1 }

pub turn-requires : goal.turn-requires
turn-requires c =
    turn_asked c.args.roots.now (formed c.requires.good) c.requires.below c.clear.ensures c.mark_roots.ensures.rooted c.mark_down.ensures.marking c.slide-used.ensures

pub rebuild-requires : goal.rebuild-requires
rebuild-requires c =
    let q9 = rebuild_asked c.args.roots.now (formed c.requires.good) c.requires.below c.clear.ensures c.mark_roots.ensures.rooted c.mark_down.ensures.marking c.slide-used.ensures c.turn.ensures (distinct_in c.requires.good.unique) in
    record { formed = q9.0; distinct = q9.1 }

pub returns : goal.returns
returns c =
    collected c.args.roots.now (formed c.requires.good) c.requires.below c.clear.ensures c.mark_roots.ensures.rooted c.mark_down.ensures.marking c.slide-used.ensures c.turn.ensures c.rebuild.ensures
