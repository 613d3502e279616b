-- `arms::visit::required` meets its contract, kind by kind.
use Rattle.std.proofs.Common.{sym}
use Rattle.arms.proofs.MarkKinds.{kill_required, never_required, as_arm, required_past}
use Rattle.arms.proofs.visit.required.Goals as goal

pub returns-in_default : goal.returns-in_default
returns-in_default c = λ o. required_past _ o _ c.in_default.ensures

pub returns-in-Kill : goal.returns-in-Kill
returns-in-Kill c = λ o. rw (sym c.in-Ok.ensures) (kill_required _ o c.in-Kill.is)

pub returns-in-Emit : goal.returns-in-Emit
returns-in-Emit c = λ o. rw (sym c.in-Ok.ensures) (never_required _ o c.in-Emit.is)

pub returns-in_default-kind : goal.returns-in_default-kind
returns-in_default-kind c =
    λ o. rw (sym c.in-Ok.ensures) (as_arm _ o _ c.in_default-kind.not-Emit c.in_default-kind.not-Kill c.in_default-kind.not-ControlBarrier c.in_default-kind.not-MemoryBarrier c.in_default-kind.not-ImageAtomic c.in_default-kind.not-Call)
