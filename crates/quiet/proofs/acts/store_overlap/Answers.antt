-- `quiet::acts::store_overlap` meets its contract: the place is the pointer's target.
use Rattle.quiet.proofs.Overlaps.{store_room, store-some}
use Rattle.quiet.proofs.acts.store_overlap.Goals as goal

pub find_target-target-requires : goal.find_target-target-requires
find_target-target-requires c = store_room c.requires.needing c.args.pointer.now c.requires.same_function _ c.requires.f_in_bounds

pub returns : goal.returns
returns c =
    store-some c.requires.needing c.args.pointer.now c.requires.same_function c.find_target-target.ensures c.below-piece.ensures c.something.ensures
