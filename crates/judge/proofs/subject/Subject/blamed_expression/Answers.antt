-- `Subject::blamed_expression` meets its contract. The invariant: the expressions below e are judged.
use Rattle.judge.proofs.ValueRows.{each_none, each_next}
use Rattle.judge.proofs.Blame.{there_below, blamed_at, blamed_none}
use Rattle.judge.proofs.subject.Subject.blamed_expression.Goals as goal

pub loop-e-init : goal.loop-e-init
loop-e-init c = each_none _

pub judged_expression-requires : goal.judged_expression-requires
judged_expression-requires c =
    record { unsized_table = c.requires.unsized_table; e_in_bounds = there_below c.expressions-n.ensures c.loop-e-test.true }

pub returns-then-not-judged_expression : goal.returns-then-not-judged_expression
returns-then-not-judged_expression c =
    blamed_at _ c.expressions-n.ensures c.loop-e-test.true c.loop-e.invariant c.judged_expression.ensures c.if-not-judged_expression.true

pub loop-e-preserved : goal.loop-e-preserved
loop-e-preserved c =
    each_next _ c.judged_expression.ensures c.if-not-judged_expression.false c.loop-e.invariant

pub returns : goal.returns
returns c = blamed_none _ c.expressions-n.ensures c.loop-e-test.false c.loop-e.invariant
