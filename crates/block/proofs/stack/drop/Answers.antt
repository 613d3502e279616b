-- `block::stack::drop` meets its contract.
use Rattle.block.proofs.Saving.{dropped}
use Rattle.block.proofs.stack.drop.Goals as goal

pub returns : goal.returns
returns c = dropped c.args.k c.requires c.clear_context.ensures
