-- `request::requests::read_globals` meets its contract: one law for each way.
use mathlib.Core.Path.{refl}
use Rattle.request.proofs.Entries.{ended, goes_on}
use Rattle.request.proofs.Judged.{globals_malformed, globals_left, globals_unknown, globals_function, globals_report, globals-accepted}
use Rattle.request.proofs.Ways.{there, missing, refuses}
use Rattle.request.proofs.requests.read_globals.Goals as goal

pub returns-in_err-o : goal.returns-in_err-o
returns-in_err-o c =
    rw (refuses _ c.from_residual.ensures.1 c.ok_or.ensures.value c.in_err-o.was)
    (globals_malformed _ _ _ _ _ _ c.args.retval (rw (missing c.ok_or.ensures.ok_part c.in_err-o.was) at c.read_variables.ensures))

pub returns-then-not-ends : goal.returns-then-not-ends
returns-then-not-ends c = globals_left _ _ _ _ _ _ c.args.retval (rw (there c.ok_or.ensures.ok_part c.in_ok-o.was) at c.read_variables.ensures) (goes_on c.in_ok-o.end.now c.ends.ensures c.if-not-ends.true)

pub returns-in_err-g : goal.returns-in_err-g
returns-in_err-g c =
    rw (refuses _ c.from_residual-in_err-g.ensures.1 c.ok_or-2.ensures.value c.in_err-g.was)
    (globals_unknown _ _ _ _ _ _ c.args.retval (rw (there c.ok_or.ensures.ok_part c.in_ok-o.was) at c.read_variables.ensures) (ended c.in_ok-o.end.now c.ends.ensures c.if-not-ends.false) (missing c.ok_or-2.ensures.ok_part c.in_err-g.was))

pub returns-then-functions-function : goal.returns-then-functions-function
returns-then-functions-function c = globals_function _ _ _ _ _ _ c.args.retval (rw (there c.ok_or.ensures.ok_part c.in_ok-o.was) at c.read_variables.ensures) (ended c.in_ok-o.end.now c.ends.ensures c.if-not-ends.false) (there c.ok_or-2.ensures.ok_part c.in_ok-g.was) c.if-functions-function.true

pub returns-then-report-lt-MIN_REPORT : goal.returns-then-report-lt-MIN_REPORT
returns-then-report-lt-MIN_REPORT c =
    globals_report _ _ _ _ _ _ c.args.retval (rw (there c.ok_or.ensures.ok_part c.in_ok-o.was) at c.read_variables.ensures) (ended c.in_ok-o.end.now c.ends.ensures c.if-not-ends.false) (there c.ok_or-2.ensures.ok_part c.in_ok-g.was) c.if-functions-function.false c.if-report-lt-MIN_REPORT.true

pub returns : goal.returns
returns c =
    globals-accepted _ _ _ _ _ _ c.args.retval (rw (there c.ok_or.ensures.ok_part c.in_ok-o.was) at c.read_variables.ensures) (ended c.in_ok-o.end.now c.ends.ensures c.if-not-ends.false) (there c.ok_or-2.ensures.ok_part c.in_ok-g.was) c.if-functions-function.false c.if-report-lt-MIN_REPORT.false c.requires.globals_le_absent.1 refl
