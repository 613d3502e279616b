-- `bindings::set::list` meets its contract: binding by binding.
use mathlib.Core.Path.{sym, ◌∙◌}
use Rattle.bindings.proofs.Writing.{writing_none, writing_not, writing_in}
use Rattle.bindings.proofs.set.list.Goals.{then-contains, else-contains}
use Rattle.bindings.proofs.set.list.Goals as goal

pub loop-b-init : goal.loop-b-init
loop-b-init c = writing_none _ _

pub loop-b-preserved : goal.loop-b-preserved
loop-b-preserved c =
    elim c.if-contains.branch [
      | then-contains w ↦
          rw (w.out-is, w.k-is) (writing_in _ _ c.loop-b.invariant c.loop-b-test.true c.requires (sym c.contains.ensures ∙ w.if-contains.true))
      | else-contains w ↦
          rw (w.out-is, w.k-is) (writing_not _ _ c.loop-b.invariant c.loop-b-test.true (sym c.contains.ensures ∙ w.if-contains.false))
    ]
