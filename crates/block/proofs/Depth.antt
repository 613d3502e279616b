-- A block that a statement of the block b holds: its end lies by two records before that of b. So it has the slots that it may take, three contexts above that of b.
use mathlib.Core.List.{List}
use Prim.Native.Nat.{ℕ, ◌+◌, ◌<◌, ◌≤◌}
use native.Mathlib.Omega.{arith}
use Rattle.module.specs.Module.{FunctionHandle, BlockHandle}
use Rattle.module.specs.Tables.{module_of}
use Rattle.walk.specs.Marks.{block_at}
use Rattle.sound.specs.Sizes.{record_number}
use Rattle.sound.proofs.Blocks.{held_number}
use Rattle.sound.proofs.There.{block_there}
use Rattle.sound.proofs.Walks.{module_valid}
use Rattle.marks.specs.Ray.{StatementIn}

pub held_before : {bytes t : List ℕ} {f : FunctionHandle} {b : BlockHandle} {s : ℕ} → StatementIn bytes t f b s → (a : BlockHandle) → a < b
    → record_number (module_of bytes t) f a + 2 ≤ record_number (module_of bytes t) f b
held_before {bytes} {t} {f} {b} w a l =
    let m = module_of bytes t in
    let some : 0 < (block_at m f b).count = omega (arith, w.low, w.high) in
    held_number m (module_valid bytes m w.of_block.was.module_is) f a b l (block_there m f b 0 some) some
