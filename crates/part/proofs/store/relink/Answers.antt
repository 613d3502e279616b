-- `relink` meets its contract: the cells below n are in their chains.
use Rattle.part.proofs.Chains.{relinking_more, rebuilt}
use Rattle.part.proofs.store.relink.Goals as goal

pub loop-n-preserved : goal.loop-n-preserved
loop-n-preserved c =
    relinking_more c.requires.formed c.loop-n.invariant c.loop-n-test.true c.link.ensures

pub returns : goal.returns
returns c = rebuilt c.requires.formed c.requires.distinct c.loop-n.invariant c.loop-n-test.false
