-- `module::shape::expression_shape` meets its contract: a row of the table, or no kind.
use Rattle.module.proofs.Shapes.{expression-row}
use Rattle.module.proofs.shape.expression_shape.Goals as goal

pub returns : goal.returns
returns c = rw c.shape_at.ensures (expression-row _)
