-- `memory::memory::init_memory` meets its contract. Assumes nothing.
use Rattle.memory.proofs.Notes.{all_filled, emptied}
use native.Mathlib.Omega.{arith}
use Rattle.memory.proofs.memory.init_memory.Goals as goal

pub returns : goal.returns
returns c =
    emptied c.init.ensures.0 c.init.ensures.1 (omega (arith, c.init.auto.cells, c.requires.store_size_in_bounds.0)) (all_filled (c.fill.ensures.after (λ y e. e))) c.fill.auto.self c.requires.stack_slot_in_bounds c.flats.ensures
