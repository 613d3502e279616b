-- `memory::want::child` meets its contract. Assumes nothing.
use Rattle.memory.proofs.Asks.{child_popped, child_low, child_inside}
use Rattle.memory.proofs.want.child.Goals as goal

pub returns-then-w-gt0 : goal.returns-then-w-gt0
returns-then-w-gt0 c =
    child_popped _ _ _ c.requires.memory.1 _ c.requires.k_value c.if-w-gt0.true c.pop.ensures

pub into-requires : goal.into-requires
into-requires c =
    child_low c.args.cells.now c.args.slots.now c.args.w c.requires.memory.1 c.args.k c.requires.k_value c.if-w-gt0.false

pub returns : goal.returns
returns c =
    child_inside _ _ _ c.requires.memory.1 _ c.requires.k_value c.if-w-gt0.false c.into.ensures
