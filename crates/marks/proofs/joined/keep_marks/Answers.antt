-- `marks::joined::keep_marks` meets its contract. Assumes nothing.
use mathlib.Core.Path.{refl}
use Rattle.marks.proofs.Stretches.{lent_kept}
use Rattle.marks.proofs.joined.keep_marks.Goals as goal

pub returns : goal.returns
returns c =
    record { flags_are = refl; marks_are = lent_kept _ _ _ _ _ _ c.requires.0 c.requires.3 c.requires.1 c.range-own.ensures.start c.range-own.ensures.end _ c.copy.ensures }
