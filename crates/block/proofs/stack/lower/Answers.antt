-- `block::stack::lower` meets its contract: a copy, and then a clearing.
use Rattle.block.proofs.Saving.{lowered}
use Rattle.block.proofs.stack.lower.Goals as goal

pub returns : goal.returns
returns c = lowered c.args.k c.requires c.copy_context.ensures c.clear_context.ensures
