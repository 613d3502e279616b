-- `peek` meets its contract.
use Rattle.part.proofs.Write.{look_seen}
use Rattle.part.proofs.store.peek.Goals as goal

pub returns : goal.returns
returns c =
    look_seen c.requires.formed c.requires.lt_n c.word.ensures c.word-2.ensures c.word-3.ensures
