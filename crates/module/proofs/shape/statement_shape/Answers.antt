-- `module::shape::statement_shape` meets its contract: a row of the table, or no kind.
use Rattle.module.proofs.Shapes.{statement-row}
use Rattle.module.proofs.shape.statement_shape.Goals as goal

pub returns : goal.returns
returns c = rw c.shape_at.ensures (statement-row _)
