-- `block::branches::join_up` meets its contract: a join, and then a lowering.
use Rattle.block.proofs.branches.join_up.Goals as goal

pub returns : goal.returns
returns c = record { between = _; joined = c.join-fits.ensures; lowered = c.lower.ensures }
