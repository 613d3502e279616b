-- `needs::path::below` meets its contract. What is left of the path keeps the answer (`Going`).
use mathlib.Core.Path.{refl}
use Rattle.needs.proofs.Steps.{going_more, going_end}
use Rattle.needs.proofs.path.below.Goals as goal

pub loop-i-preserved : goal.loop-i-preserved
loop-i-preserved c = going_more c.loop-i.invariant c.loop-i-test.true refl c.subpart-m.ensures

pub returns : goal.returns
returns c = going_end c.loop-i.invariant c.loop-i-test.false
