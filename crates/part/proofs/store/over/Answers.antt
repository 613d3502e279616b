-- `over` meets its contract.
use Rattle.part.proofs.store.over.Goals as goal

pub returns : goal.returns
returns c = c.measure.ensures.over_is
