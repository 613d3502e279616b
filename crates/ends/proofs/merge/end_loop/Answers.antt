-- From the copies, the sum and the comparison (LoopEnd).
use mathlib.Core.Path.{refl}
use Rattle.ends.proofs.LoopEnd.{loop_full, loop_ends}
use Rattle.ends.proofs.merge.end_loop.Goals as goal

pub returns-in_err-push_sum : goal.returns-in_err-push_sum
returns-in_err-push_sum c =
    rw c.from_residual.ensures
    (loop_full c.requires.live c.requires.stack_slot_lt_n.0 c.requires.stack_slot_lt_n.1 c.copy.ensures c.in_err-push_sum.ensures refl refl)

pub returns-then-holds : goal.returns-then-holds
returns-then-holds c =
    loop_ends c.requires.live c.requires.stack_slot_lt_n.0 c.requires.stack_slot_lt_n.1 c.copy.ensures c.in_ok-push_sum.ensures refl c.copy-2.ensures c.covers-holds.ensures refl refl (rw c.if-holds.true refl) refl refl

pub returns-else-holds : goal.returns-else-holds
returns-else-holds c =
    loop_ends c.requires.live c.requires.stack_slot_lt_n.0 c.requires.stack_slot_lt_n.1 c.copy.ensures c.in_ok-push_sum.ensures refl c.copy-2.ensures c.covers-holds.ensures refl refl (rw c.if-holds.false refl) refl refl
