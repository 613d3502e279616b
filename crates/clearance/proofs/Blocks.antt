-- A block's tree is its statements with the blocks of lower numbers in place of their numbers.
use mathlib.Core.Path.{◌≡◌}
use mathlib.Core.List.{List}
use Prim.Native.Nat.{ℕ}
use Rattle.module.specs.Module.{BlockHandle, Function}
use Rattle.module.specs.Knot.{knot, below}
use Rattle.module.proofs.Knot.{knot-is}
use Rattle.clearance.specs.Tree.{nop, block_tree}

pub block_is : (f : Function) (marks : List ℕ) (b : BlockHandle) →
    knot (block_tree f marks) nop b ≡ block_tree f marks (below (knot (block_tree f marks) nop) nop b) b
block_is f marks b = knot-is (block_tree f marks) nop b
