-- `acts::stores::act_store` meets its contract: nothing is needed, or the store has a dynamic index, or it has none (Storing).
use mathlib.Core.Path.{refl, sym, ◌∙◌}
use Rattle.acts.proofs.Steps.{needs_some, acted_none}
use Rattle.acts.proofs.Storing.{act_needing, store_pointer, known_asks, somewhere_asks, known_acted, somewhere_acted}
use native.Mathlib.Omega.{arith}
use Rattle.acts.proofs.stores.act_store.Goals as goal

pub invariant_of-pointer : goal.invariant_of-pointer
invariant_of-pointer c =
    record { pointer = store_pointer c.requires.act_given c.requires.store_of }

pub store_overlap-requires : goal.store_overlap-requires
store_overlap-requires c =
    record { needing = act_needing c.requires.act_given; same_function = refl; f_in_bounds = c.requires.act_given.room }

pub returns-in_default : goal.returns-in_default
returns-in_default c =
    acted_none c.requires.act_given.ready (c.store_overlap.ensures c.args.v.0) c.in_default.is

pub find_target-target-requires : goal.find_target-target-requires
find_target-target-requires c =
    omega (arith, c.requires.act_given.room, (c.store_overlap.ensures 0).long)

pub store_somewhere-requires : goal.store_somewhere-requires
store_somewhere-requires c = somewhere_asks c.requires.act_given c.requires.store_of

pub returns-then-target : goal.returns-then-target
returns-then-target c =
    record { step = somewhere_acted c.requires.act_given c.requires.store_of (needs_some (c.store_overlap.ensures c.args.v.0) c.in-Some.is) (sym c.find_target-target.ensures.dynamic ∙ c.if-target.true) c.store_somewhere.ensures; long = c.find_target-target.ensures.long ∙ (c.store_overlap.ensures 0).long }

pub store_at-requires : goal.store_at-requires
store_at-requires c =
    known_asks c.requires.act_given c.requires.store_of (c.store_overlap.ensures c.args.v.0) c.in-Some.is c.find_target-target.ensures.is (sym c.find_target-target.ensures.dynamic ∙ c.if-target.false)

pub returns : goal.returns
returns c =
    record { step = known_acted c.requires.act_given c.requires.store_of (needs_some (c.store_overlap.ensures c.args.v.0) c.in-Some.is) c.find_target-target.ensures.is (sym c.find_target-target.ensures.dynamic ∙ c.if-target.false) c.store_at.ensures; long = c.find_target-target.ensures.long ∙ (c.store_overlap.ensures 0).long }
