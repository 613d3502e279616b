-- `judge::made::parts_fit` meets its contract. The invariant: the first i fit.
use Rattle.judge.proofs.ValueRows.{each_none, each_next, each_fails, each_all}
use Rattle.judge.proofs.Components.{part_low, part_here}
use Rattle.judge.proofs.made.parts_fit.Goals as goal

pub loop-i-init : goal.loop-i-init
loop-i-init c = each_none _

pub same_part-requires : goal.same_part-requires
same_part-requires c =
    record { a_in_bounds = c.requires.a_in_bounds; b_in_bounds = part_low c.args.expression.now.row_of c.requires.kind_value c.operand-count.ensures c.loop-i-test.true c.expression_operand.ensures c.type_of-b.ensures }

pub returns-then-not-same_part : goal.returns-then-not-same_part
returns-then-not-same_part c =
    each_fails _ _ (λ i. i) c.operand-count.ensures c.loop-i-test.true (part_here c.args.expression.now.row_of _ _ c.expression_operand.ensures c.type_of-b.ensures (c.same_part.ensures _ c.args.expression.now.row_of.given.values.same)) c.if-not-same_part.true

pub loop-i-preserved : goal.loop-i-preserved
loop-i-preserved c =
    each_next _ (part_here c.args.expression.now.row_of _ _ c.expression_operand.ensures c.type_of-b.ensures (c.same_part.ensures _ c.args.expression.now.row_of.given.values.same)) c.if-not-same_part.false c.loop-i.invariant

pub returns : goal.returns
returns c = each_all _ _ (λ i. i) c.operand-count.ensures c.loop-i-test.false c.loop-i.invariant
