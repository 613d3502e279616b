-- `memory::stretches::extend` meets its contract. Assumes nothing.
use mathlib.Core.Path.{◌≡◌}
use Rattle.memory.specs.Stretches.{copied}
use Rattle.memory.proofs.stretches.extend.Given as goal

abbrev pub invariant-loop-k : goal.invariant-loop-k
invariant-loop-k l = l.slots ≡ copied l.initial.slots l.from l.to l.k
