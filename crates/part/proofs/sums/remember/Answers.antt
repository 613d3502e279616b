-- `remember` meets its contract.
use Rattle.part.proofs.Summing.{remembered}
use Rattle.part.proofs.sums.remember.Goals as goal

pub returns : goal.returns
returns c =
    remembered c.requires.good c.slot-k.ensures c.requires.known c.set_note.ensures c.set_note-2.ensures c.set_note-3.ensures
