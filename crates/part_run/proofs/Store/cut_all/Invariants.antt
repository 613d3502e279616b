-- `Store::cut_all` meets its contract.
use Rattle.part_run.specs.Live.{Went}
use Rattle.part_run.proofs.Store.cut_all.Given as goal

abbrev pub invariant-loop-i : goal.invariant-loop-i
invariant-loop-i l = Went l.initial.self.cells l.self.cells l.self.roots
