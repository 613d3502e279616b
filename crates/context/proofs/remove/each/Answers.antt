-- `context::remove::each` meets its contract: the loop has listed the entries from k on.
use Rattle.context.proofs.Taking.{listed_none, listed_more, listed_all}
use borrow.Author.Rules.{rules}
use Rattle.context.proofs.remove.each.Goals as goal

pub loop-k-init : goal.loop-k-init
loop-k-init c = (listed_none _ _ c.requires.good, c.requires.room.1)

pub loop-k-preserved : goal.loop-k-preserved
loop-k-preserved c =
    (listed_more c.loop-k.invariant.1 (search rules) c.loop-k.invariant.0 c.make-r.ensures, c.loop-k.invariant.1)

pub returns : goal.returns
returns c = listed_all (search rules) c.loop-k.invariant.0
