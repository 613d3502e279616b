-- `checking::shape::marks_start` meets its contract. The invariant: `at` counts the marks of the functions before g.
use Rattle.checking.proofs.Counting.{Started}
use Rattle.checking.proofs.shape.marks_start.Given as goal

abbrev pub invariant-loop-g : goal.invariant-loop-g
invariant-loop-g l = Started l.file.bytes l.file.t l.n l.at l.g
