-- `Store::count` meets its contract.
use Prim.Native.Nat.{◌≤◌}
use Rattle.part_run.specs.Live.{Went}
use Rattle.part_run.proofs.Store.count.Given as goal

abbrev pub invariant-loop-k : goal.invariant-loop-k
invariant-loop-k l = Went l.initial.self.cells l.self.cells l.self.roots × (l.found ≤ l.k)
