-- `acts::emits::pass_emits` meets its contract. The invariant: the expressions from the k-th on were walked (Emitting).
use mathlib.Core.Path.{refl, ◌∙◌}
use Rattle.acts.proofs.Places.{world_few}
use Rattle.acts.proofs.Emitting.{emitted_none, emitted_on, emitted_full, emitted_all, back, mark_is}
use native.Mathlib.Omega.{arith}
use Rattle.acts.proofs.emits.pass_emits.Goals as goal

pub overflow_add-last : goal.overflow_add-last
overflow_add-last c = omega (arith, c.requires.last_in_bounds, world_few c.requires.pass_given.world)

pub loop-k-init : goal.loop-k-init
loop-k-init c = (emitted_none _ _ _ _ _ c.requires.pass_given.ready c.requires.pass_given.going, refl)

pub returns-in_err-q : goal.returns-in_err-q
returns-in_err-q c =
    rw c.from_residual.ensures
    (emitted_full _ _ _ _ _ (back (omega arith) c.loop-k.invariant.0) c.note-at.ensures (mark_is _ _ _ _ _ c.requires.begin_value c.mark_at-marked.ensures) c.in_err-q.ensures c.saturating_sub-count.ensures c.loop-k.invariant.1 refl)

pub loop-k-preserved : goal.loop-k-preserved
loop-k-preserved c =
    (emitted_on _ _ _ _ _ (back (omega arith) c.loop-k.invariant.0) c.note-at.ensures (mark_is _ _ _ _ _ c.requires.begin_value c.mark_at-marked.ensures) c.in_ok-q.ensures refl, c.in_ok-q.ensures.long ∙ c.loop-k.invariant.1)

pub returns : goal.returns
returns c =
    emitted_all _ _ _ _ _ c.saturating_sub-count.ensures (omega arith) c.loop-k.invariant.0 c.loop-k.invariant.1
