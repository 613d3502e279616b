-- `acts::stores::pass_store` meets its contract: marked, idle, or walked and blamed (Marked).
use mathlib.Core.Path.{refl}
use Rattle.acts.proofs.Storing.{store_pointer}
use Rattle.acts.proofs.Marked.{here_given, hand_needing, above_asks, marked_on, marked_full, obeys_on, breaks_full, breaks_on}
use Rattle.acts.proofs.stores.pass_store.Goals as goal

pub returns-then-marked : goal.returns-then-marked
returns-then-marked c =
    marked_on c.requires.pass_given.ready _ c.in_ok-act_store.ensures c.if-marked.true c.requires.pass_given.going refl

pub returns-in_err-act_store : goal.returns-in_err-act_store
returns-in_err-act_store c =
    rw c.from_residual.ensures
    (marked_full c.requires.pass_given.ready _ c.in_err-act_store.ensures c.if-marked.true refl refl)

pub invariant_of-pointer : goal.invariant_of-pointer
invariant_of-pointer c =
    record { pointer = store_pointer (here_given c.requires.pass_given) c.requires.store_of }

pub store_idle-requires : goal.store_idle-requires
store_idle-requires c =
    record { needing = hand_needing c.requires.pass_given; same_function = refl; f_in_bounds = c.requires.pass_given.room }

pub returns-then-store_idle : goal.returns-then-store_idle
returns-then-store_idle c =
    obeys_on c.requires.pass_given.ready _ (c.store_idle.ensures c.args.v.0) c.if-marked.false c.requires.pass_given.going c.if-store_idle.true

pub returns-in_err-act_store-2 : goal.returns-in_err-act_store-2
returns-in_err-act_store-2 c =
    rw c.from_residual-in_err-act_store-2.ensures
    (breaks_full c.requires.pass_given.ready _ (c.store_idle.ensures c.args.v.0) c.if-store_idle.false (above_asks c.requires.pass_given).1 c.copy.ensures c.in_err-act_store-2.ensures c.if-marked.false refl refl)

pub returns : goal.returns
returns c =
    breaks_on c.requires.pass_given.ready _ (c.store_idle.ensures c.args.v.0) c.if-store_idle.false (above_asks c.requires.pass_given).1 c.copy.ensures c.in_ok-act_store-2.ensures c.if-marked.false c.requires.pass_given.going refl c.blame.ensures c.copy-2.ensures
