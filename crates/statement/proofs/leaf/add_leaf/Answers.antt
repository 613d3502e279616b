-- `statement::leaf::add_leaf` meets its contract. Assumes nothing.
use Rattle.std.proofs.Common.{rules}
use Rattle.statement.proofs.ByKind.{control, memory, breaks, continues, past_last, plain_kill, plain_barrier, plain_image, plain_leaves}
use Rattle.statement.proofs.leaf.add_leaf.Goals as goal

pub returns-in-Ok-Kill : goal.returns-in-Ok-Kill
returns-in-Ok-Kill c = rw c.answer.ensures (plain_kill c.requires.arm _ (search rules))

pub returns-in-Ok-ControlBarrier : goal.returns-in-Ok-ControlBarrier
returns-in-Ok-ControlBarrier c =
    rw c.answer-in-Ok-ControlBarrier.ensures (plain_barrier c.requires.arm _ (search (rules, control, memory)))

pub returns-in-Ok-ImageAtomic : goal.returns-in-Ok-ImageAtomic
returns-in-Ok-ImageAtomic c = rw c.halt.ensures (plain_image c.requires.arm _ (search rules))

pub returns-in_default : goal.returns-in_default
returns-in_default c = rw c.leave.ensures.0 (plain_leaves c.requires.arm _ c.leave.ensures.1 (search (rules, breaks, continues, past_last)))
