-- `memory::want::tail` meets its contract. Assumes nothing.
use mathlib.Core.Path.{◌≡◌}
use Prim.Native.Nat.{◌<◌}
use Rattle.part.specs.Store.{top, part}
use Rattle.memory.specs.Want.{tail}
use Rattle.memory.proofs.want.tail.Given as goal

abbrev pub invariant-loop : goal.invariant-loop
invariant-loop l = (l.m < top l.cells) × (part l.cells l.m ≡ tail (part l.cells l.n) l.counter)
