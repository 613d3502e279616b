-- `module::shape::type_shape` meets its contract: a row of the table, or no kind.
use Rattle.module.proofs.Shapes.{type_row}
use Rattle.module.proofs.shape.type_shape.Goals as goal

pub returns : goal.returns
returns c = rw c.shape_at.ensures (type_row _)
