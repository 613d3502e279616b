-- `judge::shapes::is_alike` meets its contract: by the two entries.
use Rattle.judge.specs.Alike.{by_table}
use Rattle.judge.proofs.shapes.is_alike.Goals as goal

pub returns : goal.returns
unfolding by_table
returns c = rw (c.word.ensures, c.word-2.ensures)
