-- `marks::set::set_mark` meets its contract. Assumes nothing.
use Rattle.walk.specs.Marks.{write_marks}
use Rattle.marks.proofs.Turns.{mark-byte}
use Rattle.marks.proofs.set.set_mark.Goals as goal

pub returns : goal.returns
unfolding write_marks
returns c = rw (c.from.ensures, mark-byte)
