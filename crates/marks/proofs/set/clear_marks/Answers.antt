-- `marks::set::clear_marks` meets its contract. Assumes nothing.
use Rattle.marks.proofs.Stretches.{lent_cleared}
use native.Mathlib.Nat.{le_refl}
use Rattle.marks.proofs.set.clear_marks.Goals as goal

pub returns : goal.returns
returns c =
    lent_cleared _ _ _ _ _ _ c.requires (le_refl _) c.range.ensures.start c.range.ensures.end _ c.clear.ensures
