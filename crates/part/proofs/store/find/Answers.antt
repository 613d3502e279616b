-- `find` meets its contract: what is asked for is at n or below. The measure is the number of the piece.
use mathlib.Core.Path.{sym, ◌∙◌}
use Rattle.part.proofs.Chains.{searching_more, not_asked}
use Rattle.part.proofs.store.find.Goals as goal

pub loop-n-preserved : goal.loop-n-preserved
loop-n-preserved c =
    searching_more c.requires c.loop-n.invariant c.loop-n-test.true
    (λ x. not_asked _ _ _ _ _ _ (sym c.eq.ensures ∙ c.if-eq.false) (c.look-x.ensures.index_is ∙ x.index_is) (c.look-x.ensures.child_is ∙ x.child_is) (c.look-x.ensures.rest_is ∙ x.rest_is))
    c.word-n.ensures
