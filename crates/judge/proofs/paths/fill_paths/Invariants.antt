-- `judge::paths::fill_paths` meets its contract. The invariant: the entries of the expressions below e are right.
use Rattle.module.specs.Tables.{function_of}
use Rattle.judge.proofs.Marked.{Marks}
use Rattle.judge.proofs.PathSteps.{path_among}
use Rattle.judge.proofs.paths.fill_paths.Given as goal

abbrev pub invariant-loop-e : goal.invariant-loop-e
invariant-loop-e l = Marks (path_among (function_of l.file.bytes l.file.t l.f.0).expressions) l.table l.e
