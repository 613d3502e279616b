-- `marks::set::set_call` meets its contract. Assumes nothing.
use native.Mathlib.Numerals.{add-one}
use Rattle.walk.specs.Marks.{write_marks}
use Rattle.marks.proofs.set.set_call.Goals as goal

pub returns : goal.returns
unfolding write_marks
returns c = rw (c.set_mark-2.ensures, c.set_mark.ensures, add-one c.args.at)
