-- `memory::memory::tidy` meets its contract. Assumes nothing.
use Rattle.memory.proofs.Slots.{tidied}
use Rattle.memory.proofs.memory.tidy.Goals as goal

pub returns : goal.returns
returns c = tidied c.requires.memory c.requires.slots_bound c.collect.ensures
