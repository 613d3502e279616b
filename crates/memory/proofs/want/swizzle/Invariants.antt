-- `memory::want::swizzle` meets its contract. Assumes nothing.
use Rattle.part.specs.PartReq.{entries}
use Rattle.context.specs.Swizzle.{swizzled}
use Rattle.memory.specs.Want.{tail, asked}
use Rattle.memory.specs.Picks.{Picking-on}
use Rattle.memory.proofs.want.swizzle.Given as goal

abbrev pub invariant-loop-i : goal.invariant-loop-i
invariant-loop-i l = Picking-on l.pattern (asked l.cells l.slots l.w) (swizzled l.pattern (asked l.cells l.slots l.w)) l.k l.digits

abbrev pub decreases-loop-i : goal.decreases-loop-i
decreases-loop-i l = entries (tail (asked l.cells l.slots l.w) l.k)
