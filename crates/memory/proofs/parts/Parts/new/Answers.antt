-- `memory::parts::Parts::new` meets its contract: the arrays are as long as they are made.
use Prim.Native.Nat.{ℕ}
use lib.ListN.{length-replicate}
use Rattle.memory.specs.Layout.{slot_count, store_size}
use Rattle.memory.proofs.parts.Parts.new.Goals as goal

pub invariant_of-result : goal.invariant_of-result
invariant_of-result c = record { cells_long = length-replicate {A = ℕ} store_size 0; slots_long = length-replicate {A = ℕ} slot_count 0 }
