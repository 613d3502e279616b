-- `context::remove::each` meets its contract: the loop has listed the entries from k on.
use Prim.Native.Nat.{◌<◌}
use Rattle.part.specs.Store.{top}
use Rattle.context.proofs.Taking.{Listed}
use Rattle.context.proofs.remove.each.Given as goal

abbrev pub invariant-loop-k : goal.invariant-loop-k
invariant-loop-k l = Listed l.initial.cells l.cells l.n l.child l.k l.r × (l.child < top l.initial.cells)
