-- `asks::arms::access_index` meets its contract. Assumes nothing.
use Rattle.asks.proofs.Telling.{index_after, index_over, index_room, index_asked}
use native.Mathlib.Omega.{arith}
use Rattle.asks.proofs.arms.access_index.Goals as goal

pub returns-then-j-gt0 : goal.returns-then-j-gt0
returns-then-j-gt0 c = index_after _ _ _ c.if-j-gt0.true

pub returns-then-wrap_over : goal.returns-then-wrap_over
returns-then-wrap_over c =
    index_over _ c.if-j-gt0.false c.operand-i.ensures c.wrap_over.ensures _ c.if-wrap_over.true

pub wrap-want-requires : goal.wrap-want-requires
wrap-want-requires c =
    index_room c.args.cells.now c.args.slots.now c.requires.1 c.wrap_over.ensures (omega arith) c.if-wrap_over.false

pub returns : goal.returns
returns c =
    index_asked _ c.if-j-gt0.false c.operand-i.ensures c.wrap_over.ensures c.requires.1 (omega arith) c.if-wrap_over.false c.expression_operand-base.ensures c.wrap-want.ensures
