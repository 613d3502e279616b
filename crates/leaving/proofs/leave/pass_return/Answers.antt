-- A return, without a value and with one (ByKind).
use mathlib.Core.Path.{refl}
use Rattle.leaving.proofs.ByKind.{leaves_return, value_given, value_fits, leaves_value, leaves_full}
use Rattle.leaving.proofs.leave.pass_return.Goals as goal

pub returns-in_default : goal.returns-in_default
returns-in_default c = leaves_return c.requires.leave_given c.requires.kind_value c.copy.ensures c.in_default.ensures

pub ask_returned-requires : goal.ask_returned-requires
ask_returned-requires c =
    record { step_given = value_given c.requires.leave_given c.requires.kind_value c.copy.ensures _ c.in-Some.ensures; v_value = value_fits c.requires.leave_given c.requires.kind_value c.copy.ensures _ c.in-Some.ensures }

pub returns : goal.returns
returns c =
    leaves_value c.requires.leave_given c.requires.kind_value c.copy.ensures _ c.in-Some.ensures c.in_ok-ask_returned.ensures refl

pub returns-in_err-ask_returned : goal.returns-in_err-ask_returned
returns-in_err-ask_returned c =
    rw c.from_residual.ensures
    (leaves_full c.requires.leave_given c.requires.kind_value c.copy.ensures _ c.in-Some.ensures c.in_err-ask_returned.ensures refl refl)
