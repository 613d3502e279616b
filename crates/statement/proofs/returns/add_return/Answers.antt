-- `statement::returns::add_return` meets its contract. Assumes nothing.
use native.Mathlib.Omega.{arith}
use Rattle.memory.proofs.Joins.{got_gone, got_there}
use Rattle.statement.proofs.Asking.{handle_there, handle_absent}
use Rattle.statement.proofs.Returning.{return_absent_leaves, return_none_leaves, return_there, return_begins, return_asks}
use Rattle.statement.proofs.returns.add_return.Goals as goal
use Rattle.statement.proofs.returns.add_return.Goals.{in_default-via-in-Some+in_default, in_default-via-in_default}

pub returns-in_default : goal.returns-in_default
returns-in_default c =
    rw c.leave.ensures.0
    (elim c.in_default.branch [
      | in_default-via-in-Some+in_default w ↦ return_none_leaves c.requires.arm c.requires.kind_value _ c.leave.ensures.1 (got_gone c.args.cells.now _ w.in_default.is-1 c.get-needed.ensures)
      | in_default-via-in_default w ↦ return_absent_leaves c.requires.arm c.requires.kind_value _ c.leave.ensures.1 (handle_absent w.in_default.is-0 c.optional_expression.ensures)
    ])

pub then_ask-r-requires : goal.then_ask-r-requires
then_ask-r-requires c =
    let h = got_there _ _ c.in-Some-Some.is-1 c.get-needed.ensures in
    let e = handle_there c.in-Some-Some.is-0 c.optional_expression.ensures in
    record { fact = return_begins c.requires.arm c.requires.kind_value _ h e; e_in_bounds = (return_there c.requires.arm c.requires.kind_value 0 h e, omega arith) }

pub returns : goal.returns
returns c =
    return_asks c.requires.arm c.requires.kind_value _ (got_there _ _ c.in-Some-Some.is-1 c.get-needed.ensures) (handle_there c.in-Some-Some.is-0 c.optional_expression.ensures) c.then_ask-r.ensures c.answer.ensures
