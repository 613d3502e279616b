-- `marks::set::set_emit` meets its contract. Assumes nothing.
use mathlib.Core.Path.{◌≡◌}
use Rattle.walk.specs.StatementReq.{any, marks_of}
use Rattle.walk.specs.Marks.{write_marks}
use Rattle.marks.specs.Places.{recorded_in}
use Rattle.marks.proofs.set.set_emit.Given as goal

abbrev pub invariant-loop-k : goal.invariant-loop-k
invariant-loop-k l = (l.marks ≡ write_marks l.initial.marks l.at (marks_of (recorded_in l.slots l.from l.k))) × (l.found ≡ any (recorded_in l.slots l.from l.k))
