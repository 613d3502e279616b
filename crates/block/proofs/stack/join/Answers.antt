-- `block::stack::join` meets its contract: the sum of both contexts is put in the place of the lower one.
use mathlib.Core.Path.{◌∙◌}
use Rattle.block.proofs.Saving.{loaded, join-asked, join_clears, none_over, joined_is}
use native.Mathlib.Omega.{arith}
use Rattle.block.proofs.stack.join.Goals as goal

pub merge-joined-requires : goal.merge-joined-requires
merge-joined-requires c =
    let q9 = join-asked c.requires.memory c.requires.stack_slot_le_k.1 (loaded c.load_context-lower.ensures) (loaded c.load_context-upper.ensures) c.requires.room in
    record { good = q9.0; has_context = q9.1.0; room = q9.1.1 }

pub overflow_add-k-2 : goal.overflow_add-k-2
overflow_add-k-2 c = omega (arith, c.requires.stack_slot_le_k.1)

pub clear_context-requires : goal.clear_context-requires
clear_context-requires c =
    join_clears c.requires.memory c.requires.stack_slot_le_k.1 (loaded c.load_context-lower.ensures) (loaded c.load_context-upper.ensures) c.merge-joined.result c.save_context.ensures

pub returns : goal.returns
returns c =
    joined_is c.requires.memory c.requires.stack_slot_le_k.1 (loaded c.load_context-lower.ensures) (loaded c.load_context-upper.ensures) c.merge-joined.result c.save_context.ensures c.requires.stack_slot_le_k.0 c.merge-joined.ensures c.clear_context.ensures (none_over _ c.then_some.ensures ∙ c.over.ensures)
