-- `memory::memory::weigh` meets its contract. Assumes nothing.
use mathlib.Core.Path.{◌≡◌}
use Rattle.memory.specs.Memory.{read, sum_from}
use Rattle.memory.proofs.memory.weigh.Given as goal

abbrev pub invariant-loop-r : goal.invariant-loop-r
invariant-loop-r l = l.sum ≡ sum_from (read l.cells l.slots) l.a l.r-index
