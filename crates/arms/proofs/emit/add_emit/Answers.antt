-- `arms::emit::add_emit` meets its contract.
use native.Mathlib.Omega.{arith}
use Rattle.arms.proofs.Emitting.{emit_order, emit_small, emit_fits, emit_ends}
use Rattle.arms.proofs.emit.add_emit.Goals as goal

pub overflow_sub-n : goal.overflow_sub-n
overflow_sub-n c = emit_order c.requires c.expression_operand-first.ensures c.expression_operand-last.ensures

pub overflow_add-from : goal.overflow_add-from
overflow_add-from c =
    omega (arith, emit_small c.requires c.expression_operand-first.ensures c.expression_operand-last.ensures c.expression_number-from.ensures)

pub set_emit-any-requires : goal.set_emit-any-requires
set_emit-any-requires c =
    emit_fits c.requires c.expression_operand-first.ensures c.expression_operand-last.ensures c.expression_number-from.ensures c.place-at.ensures

pub returns : goal.returns
returns c =
    emit_ends c.requires c.expression_operand-first.ensures c.expression_operand-last.ensures c.expression_number-from.ensures c.place-at.ensures _ c.set_emit-any.ensures
