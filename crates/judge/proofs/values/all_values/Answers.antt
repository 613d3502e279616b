-- `judge::values::all_values` meets its contract. The invariant: the first i are values.
use mathlib.Core.Path.{ap, ◌∙◌}
use Rattle.clearance.specs.Judged.{is_value}
use Rattle.judge.proofs.ValueRows.{each_none, each_next, each_fails, each_all}
use Rattle.judge.proofs.values.all_values.Goals as goal

pub loop-i-init : goal.loop-i-init
loop-i-init c = each_none _

pub returns-then-not-is_value : goal.returns-then-not-is_value
returns-then-not-is_value c =
    each_fails _ _ _ c.operand-n.ensures c.loop-i-test.true (c.is_value.ensures ∙ ap (is_value _) c.expression_operand-c.ensures) c.if-not-is_value.true

pub loop-i-preserved : goal.loop-i-preserved
loop-i-preserved c =
    each_next _ (c.is_value.ensures ∙ ap (is_value _) c.expression_operand-c.ensures) c.if-not-is_value.false c.loop-i.invariant

pub returns : goal.returns
returns c = each_all _ _ _ c.operand-n.ensures c.loop-i-test.false c.loop-i.invariant
