-- `checking::firsts::fill_firsts` meets its contract. The invariant: `at` counts the marks of the first s statements, and their entries are right.
use Rattle.module.specs.Tables.{function_of}
use Rattle.checking.proofs.Counting.{Counted, FilledTo}
use Rattle.checking.proofs.firsts.fill_firsts.Given as goal

abbrev pub invariant-loop-s : goal.invariant-loop-s
invariant-loop-s l = Counted l.file.bytes l.file.t l.f.0 l.n l.at l.s × FilledTo (function_of l.file.bytes l.file.t l.f.0).statements l.firsts l.s
