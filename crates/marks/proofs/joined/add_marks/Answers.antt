-- `marks::joined::add_marks` meets its contract. Assumes nothing.
use mathlib.Core.Path.{refl}
use Rattle.marks.proofs.Stretches.{lent_added}
use Rattle.marks.proofs.joined.add_marks.Goals as goal

pub returns : goal.returns
returns c flags =
    record { flags_are = refl; marks_are = lent_added _ _ _ _ _ _ c.requires.0 c.requires.2 c.requires.1 c.range-own.ensures.start c.range-own.ensures.end _ c.add.ensures }
