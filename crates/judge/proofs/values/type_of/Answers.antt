-- `judge::values::type_of` meets its contract: by whether there is such an expression.
use Rattle.judge.proofs.ValueRows.{type-there, type_none}
use Rattle.judge.proofs.values.type_of.Goals as goal

pub returns-then-e-expressions : goal.returns-then-e-expressions
returns-then-e-expressions c =
    type-there _ _ _ _ c.expressions.ensures c.if-e-expressions.true c.expression_type.ensures

pub returns : goal.returns
returns c = type_none _ _ _ _ c.expressions.ensures c.if-e-expressions.false
