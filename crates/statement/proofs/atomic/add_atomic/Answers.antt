-- `statement::atomic::add_atomic` meets its contract. Assumes nothing.
use Rattle.state.proofs.Ends.{passed}
use Rattle.statement.proofs.Asking.{handle_given}
use Rattle.statement.proofs.AtomicArms.{atomic_aims, atomic_refuses, atomic_loads, atomic_begins, atomic_below, atomic_asks}
use native.Mathlib.Omega.{arith}
use Rattle.std.proofs.Common.{rules}
use Rattle.statement.proofs.atomic.add_atomic.Goals as goal

pub target_of-requires : goal.target_of-requires
target_of-requires c =
    rw c.expression_operand-pointer.ensures (atomic_aims c.requires.arm c.requires.kind_value 0)

pub record_of-load-requires : goal.record_of-load-requires
record_of-load-requires c =
    rw c.optional_expression-result.ensures (atomic_loads c.requires.arm c.requires.kind_value 0 (rw c.expression_operand-pointer.ensures at c.target_of.ensures))

pub then_maybe-a-requires : goal.then_maybe-a-requires
then_maybe-a-requires c =
    record { fact = rw (c.put_aside-second.ensures.1, c.put_aside-first.ensures.1) (atomic_begins c.requires.arm c.requires.kind_value _ (rw c.expression_operand-pointer.ensures at c.target_of.ensures) c.record_of-load.result c.in_ok-aim.was (rw c.optional_expression-result.ensures at c.record_of-load.ensures)); maybe_below = (rw (c.put_aside-first.ensures.0, c.optional_expression-result.ensures) (atomic_below c.requires.arm c.requires.kind_value 0 (rw c.expression_operand-pointer.ensures at c.target_of.ensures) c.record_of-load.result c.in_ok-aim.was (rw c.optional_expression-result.ensures at c.record_of-load.ensures)).0, omega arith) }

pub then_maybe-b-requires-clause-maybe_below : goal.then_maybe-b-requires-clause-maybe_below
then_maybe-b-requires-clause-maybe_below c =
    (rw (c.put_aside-second.ensures.0, handle_given c.expression_operand-value.ensures) (atomic_below c.requires.arm c.requires.kind_value 0 (rw c.expression_operand-pointer.ensures at c.target_of.ensures) c.record_of-load.result c.in_ok-aim.was (rw c.optional_expression-result.ensures at c.record_of-load.ensures)).1, omega arith)

pub returns-in_err-aim : goal.returns-in_err-aim
returns-in_err-aim c =
    rw (passed c.from_residual.ensures.1)
    (atomic_refuses c.requires.arm c.requires.kind_value _ (rw c.expression_operand-pointer.ensures at c.target_of.ensures) c.in_err-aim.was)

pub returns : goal.returns
returns c =
    atomic_asks c.requires.arm c.requires.kind_value _ (rw c.expression_operand-pointer.ensures at c.target_of.ensures) c.record_of-load.result c.in_ok-aim.was (rw c.optional_expression-result.ensures at c.record_of-load.ensures) (rw (c.put_aside-second.ensures.1, c.put_aside-first.ensures.1, c.put_aside-first.ensures.0, c.optional_expression-result.ensures) at c.then_maybe-a.ensures) (rw (c.put_aside-second.ensures.0, handle_given c.expression_operand-value.ensures) at c.then_maybe-b.ensures) (search rules) c.answer.ensures
