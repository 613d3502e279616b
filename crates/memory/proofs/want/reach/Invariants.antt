-- `memory::want::reach` meets its contract. Assumes nothing.
use mathlib.Core.Path.{◌≡◌}
use Prim.Native.Nat.{◌<◌}
use Rattle.part.specs.Store.{top, part}
use Rattle.memory.specs.Want.{downs}
use Rattle.memory.proofs.want.reach.Given as goal

abbrev pub invariant-loop-k : goal.invariant-loop-k
invariant-loop-k l = (l.m < top l.cells) × (part l.cells l.m ≡ downs l.fn.w.path l.k-index (part l.cells l.n))
