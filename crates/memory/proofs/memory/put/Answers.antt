-- `memory::memory::put` meets its contract. Assumes nothing.
use Rattle.memory.proofs.Notes.{put_noted}
use Rattle.memory.proofs.memory.put.Goals as goal

pub returns : goal.returns
returns c = put_noted c.requires c.entries-less.ensures c.entries-more.ensures
