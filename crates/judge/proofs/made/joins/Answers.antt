-- `judge::made::joins` meets its contract. The invariant: the first i are scalars and vectors, of `total` components.
use borrow.Author.Rules.{rules}
use Rattle.judge.proofs.Components.{joined_none, joined_next, joined_fails, joined_all}
use native.Mathlib.Omega.{arith}
use Rattle.judge.proofs.made.joins.Goals as goal

pub loop-i-init : goal.loop-i-init
loop-i-init c = joined_none _ _

pub returns-in_default : goal.returns-in_default
returns-in_default c =
    joined_fails _ _ c.args.expression.now.row_of.given.values.same _ c.expression_operand.ensures c.type_of-a.ensures c.kind_at.ensures _ _ c.operand-count.ensures c.loop-i-test.true (search rules)

pub overflow_add-total : goal.overflow_add-total
overflow_add-total c = omega (arith, c.loop-i-test.true, c.loop-i.invariant.small)

pub loop-i-preserved : goal.loop-i-preserved
loop-i-preserved c =
    joined_next _ _ c.args.expression.now.row_of.given.values.same _ c.expression_operand.ensures c.type_of-a.ensures c.kind_at.ensures (search rules) c.component_count.ensures (omega arith) c.loop-i.invariant

pub returns : goal.returns
returns c =
    joined_all _ _ c.args.expression.now.row_of.given.values.same _ _ _ c.operand-count.ensures c.loop-i-test.false c.loop-i.auto.i-end c.loop-i.invariant
