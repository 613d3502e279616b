-- `acts::take::take_out` meets its contract: from what was made and pushed (Steps).
use Rattle.acts.proofs.Steps.{taken_out}
use Rattle.acts.proofs.take.take_out.Goals as goal

pub returns : goal.returns
returns c = taken_out c.requires.take_given c.take_place-left.ensures c.push.ensures
