-- `marks::lent::add` meets its contract. Assumes nothing.
use mathlib.Core.Path.{◌≡◌}
use lib.ListN.{take}
use Rattle.walk.specs.Marks.{write_marks, add_marks}
use Rattle.marks.specs.Places.{slice}
use Rattle.marks.proofs.lent.add.Given as goal

abbrev pub invariant-loop-k : goal.invariant-loop-k
invariant-loop-k l = l.part ≡ write_marks l.initial.part 0 (add_marks (take l.k l.initial.part) (slice l.marks l.at l.k))
