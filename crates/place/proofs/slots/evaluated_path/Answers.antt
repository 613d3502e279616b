-- `place::slots::evaluated_path` meets its contract.
use Rattle.clearance.specs.Scope.{slot}
use Rattle.place.proofs.TwoWords.{written}
use Rattle.place.proofs.slots.evaluated_path.Goals as goal

pub returns : goal.returns
unfolding slot
returns c = written _ _ _ c.requires
