-- `arms::visit::has_mark` meets its contract, kind by kind.
use Rattle.std.proofs.Common.{sym}
use Rattle.arms.proofs.MarkKinds.{own_none, own_one, own_past}
use Rattle.arms.proofs.visit.has_mark.Goals as goal

pub returns-in_default : goal.returns-in_default
returns-in_default c = λ b o. own_past b o _ c.in_default.ensures

pub returns-in-Emit : goal.returns-in-Emit
returns-in-Emit c = λ b o. rw (sym c.in-Ok.ensures) (own_none b o c.in-Emit.is)

pub returns-in_default-kind : goal.returns-in_default-kind
returns-in_default-kind c =
    λ b o. rw (sym c.in-Ok.ensures) (own_one b o _ c.in_default-kind.not-Emit c.in_default-kind.not-Block c.in_default-kind.not-Kill c.in_default-kind.not-ControlBarrier c.in_default-kind.not-MemoryBarrier c.in_default-kind.not-ImageAtomic c.in_default-kind.not-Call)
