-- `checking::shape::mark_total` meets its contract. The invariant: `at` counts the marks of the first s statements.
use Rattle.checking.proofs.Counting.{Counted}
use Rattle.checking.proofs.shape.mark_total.Given as goal

abbrev pub invariant-loop-s : goal.invariant-loop-s
invariant-loop-s l = Counted l.file.bytes l.file.t l.f.0 l.n l.at l.s
