-- `place::sources::source_of` meets its contract: by the kind.
use borrow.Author.Rules.{rules}
use Rattle.place.proofs.SourceKinds.{source-none, source-argument, source-fixed, source-last, source-evaluated}
use Rattle.place.proofs.sources.source_of.Goals as goal

pub returns-then-expressions-e : goal.returns-then-expressions-e
returns-then-expressions-e c = source-none _ _ _ _ c.expressions.ensures c.if-expressions-e.true

pub returns-in-Ok-FunctionArgument : goal.returns-in-Ok-FunctionArgument
returns-in-Ok-FunctionArgument c =
    source-argument _ _ _ _ c.expressions.ensures c.if-expressions-e.false c.expression-row.ensures c.operand.ensures (search rules)

pub returns-in-Ok-Literal : goal.returns-in-Ok-Literal
returns-in-Ok-Literal c =
    source-fixed _ _ _ _ c.expressions.ensures c.if-expressions-e.false c.expression-row.ensures (search rules)

pub returns-in-Ok : goal.returns-in-Ok
returns-in-Ok c =
    source-evaluated _ _ _ _ c.expressions.ensures c.if-expressions-e.false c.expression-row.ensures (search rules) (search rules) (search rules) (search rules)

pub returns-in-Err : goal.returns-in-Err
returns-in-Err c =
    source-last _ _ _ _ c.expressions.ensures c.if-expressions-e.false c.expression-row.ensures (search rules)
