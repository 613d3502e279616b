-- `pruner::buffer::read_functions` meets its contract: the loop's invariant says that the totals of the first f functions were read.
use Rattle.pruner.proofs.Through.{through_first, through_has, through_flag, through_room, through_refused, through_more, through_done}
use native.Mathlib.Omega.{arith}
use mathlib.Core.Path.{refl}
use Rattle.pruner.proofs.buffer.read_functions.Goals as goal

pub loop-f-init : goal.loop-f-init
loop-f-init c =
    through_first c.requires.has_totals.0.was_read c.requires.has_totals.0.memory c.requires.has_totals.1 c.requires.room.1

pub read_total-requires : goal.read_total-requires
read_total-requires c =
    record { has_totals = (through_has c.requires.has_totals.0.was_read c.loop-f.invariant (omega (arith, c.functions-f-end.ensures, c.loop-f-test.true)) c.requires.has_totals.0 (omega arith) (omega arith), (omega (arith, c.functions-f-end.ensures, c.loop-f-test.true)), through_flag c.requires.has_totals.0.was_read c.loop-f.invariant (omega (arith, c.functions-f-end.ensures, c.loop-f-test.true))); room = (through_room c.requires.has_totals.0.was_read c.loop-f.invariant (omega (arith, c.functions-f-end.ensures, c.loop-f-test.true)) c.requires.room.0, c.loop-f.invariant.low) }

pub returns-in_err-rest : goal.returns-in_err-rest
returns-in_err-rest c =
    rw c.from_residual.ensures (through_refused c.requires.has_totals.0.was_read c.loop-f.invariant (omega (arith, c.functions-f-end.ensures, c.loop-f-test.true)) c.read_total.ensures c.in_err-rest.was)

pub loop-f-preserved : goal.loop-f-preserved
loop-f-preserved c =
    through_more c.requires.has_totals.0.was_read c.loop-f.invariant (omega (arith, c.functions-f-end.ensures, c.loop-f-test.true)) c.read_total.ensures c.in_ok-rest.was

pub returns : goal.returns
returns c =
    through_done c.requires.has_totals.0.was_read c.loop-f.invariant refl (omega (arith, c.functions-f-end.ensures, c.loop-f-test.false))
