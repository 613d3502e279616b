-- `context_bytes::check::check_lists` meets its contract: one law for each way.
use Rattle.request.proofs.Entries.{ended, goes_on}
use Rattle.context_bytes.proofs.Lists.{no_globals, no_args, no_locals, lists_left, lists_known, lists_unknown}
use Rattle.request.proofs.Ways.{there, missing, refuses}
use Rattle.context_bytes.proofs.check.check_lists.Goals as goal
use Rattle.context_bytes.proofs.check.check_lists.Goals.{else-g-via-then-g+then-x+else-l, else-g-via-then-g+else-x, else-g-via-else-g}

pub returns-in_err-g : goal.returns-in_err-g
returns-in_err-g c =
    rw (refuses _ c.from_residual.ensures.1 c.ok_or.ensures.value c.in_err-g.was)
    (no_globals _ _ _ _ (rw (missing c.ok_or.ensures.ok_part c.in_err-g.was) at c.check_variables.ensures))

pub returns-in_err-x : goal.returns-in_err-x
returns-in_err-x c =
    rw (refuses _ c.from_residual-in_err-x.ensures.1 c.ok_or-2.ensures.value c.in_err-x.was)
    (no_args _ _ _ _ (rw (there c.ok_or.ensures.ok_part c.in_ok-g.was) at c.check_variables.ensures) (rw (missing c.ok_or-2.ensures.ok_part c.in_err-x.was) at c.check_variables-2.ensures))

pub returns-in_err-l : goal.returns-in_err-l
returns-in_err-l c =
    rw (refuses _ c.from_residual-in_err-l.ensures.1 c.ok_or-3.ensures.value c.in_err-l.was)
    (no_locals _ _ _ _ (rw (there c.ok_or.ensures.ok_part c.in_ok-g.was) at c.check_variables.ensures) (rw (there c.ok_or-2.ensures.ok_part c.in_ok-x.was) at c.check_variables-2.ensures) (rw (missing c.ok_or-3.ensures.ok_part c.in_err-l.was) at c.check_variables-3.ensures))

pub returns-then-not-ends : goal.returns-then-not-ends
returns-then-not-ends c = lists_left _ _ _ _ (rw (there c.ok_or.ensures.ok_part c.in_ok-g.was) at c.check_variables.ensures) (rw (there c.ok_or-2.ensures.ok_part c.in_ok-x.was) at c.check_variables-2.ensures) (rw (there c.ok_or-3.ensures.ok_part c.in_ok-l.was) at c.check_variables-3.ensures) (goes_on _ c.ends.ensures c.if-not-ends.true)

pub returns-then-l : goal.returns-then-l
returns-then-l c = lists_known _ _ _ _ (rw (there c.ok_or.ensures.ok_part c.in_ok-g.was) at c.check_variables.ensures) (rw (there c.ok_or-2.ensures.ok_part c.in_ok-x.was) at c.check_variables-2.ensures) (rw (there c.ok_or-3.ensures.ok_part c.in_ok-l.was) at c.check_variables-3.ensures) (ended _ c.ends.ensures c.if-not-ends.false) (rw (c.if-g.true, c.if-x.true, c.if-l.true))

pub returns-else-g : goal.returns-else-g
returns-else-g c =
    lists_unknown _ _ _ _ (rw (there c.ok_or.ensures.ok_part c.in_ok-g.was) at c.check_variables.ensures) (rw (there c.ok_or-2.ensures.ok_part c.in_ok-x.was) at c.check_variables-2.ensures) (rw (there c.ok_or-3.ensures.ok_part c.in_ok-l.was) at c.check_variables-3.ensures) (ended _ c.ends.ensures c.if-not-ends.false)
    (elim c.else-g.branch [
      | else-g-via-then-g+then-x+else-l w ↦ rw (w.if-g.true, w.if-x.true, w.if-l.false)
      | else-g-via-then-g+else-x w ↦ rw (w.if-g.true, w.if-x.false)
      | else-g-via-else-g w ↦ rw w.if-g.false
    ])
