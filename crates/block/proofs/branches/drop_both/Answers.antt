-- `block::branches::drop_both` meets its contract: the upper one first.
use Rattle.block.proofs.branches.drop_both.Goals as goal

pub returns : goal.returns
returns c = record { between = _; upper = c.drop.ensures; lower = c.drop-2.ensures }
