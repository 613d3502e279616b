-- `reading::blocks::count` meets its contract: the word that was there, with one more.
use Rattle.reading.proofs.Counting.{more_is}
use Rattle.reading.proofs.blocks.count.Goals as goal

pub returns : goal.returns
returns c = rw (c.min-times.ensures, c.word.ensures, more_is) at c.put.ensures
