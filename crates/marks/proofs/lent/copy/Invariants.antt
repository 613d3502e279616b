-- `marks::lent::copy` meets its contract. Assumes nothing.
use mathlib.Core.Path.{◌≡◌}
use Rattle.walk.specs.Marks.{write_marks}
use Rattle.marks.specs.Places.{slice}
use Rattle.marks.proofs.lent.copy.Given as goal

abbrev pub invariant-loop-k : goal.invariant-loop-k
invariant-loop-k l = l.part ≡ write_marks l.initial.part 0 (slice l.marks l.at l.k)
