-- `access::file::File::expression_type` meets its contract.
use Rattle.access.proofs.Access.{expression_type_read}
use Rattle.access.proofs.file.File.expression_type.Goals as goal

pub returns : goal.returns
returns c = rw (← c.self.view_is) (expression_type_read _ _ _ c.row_at-row.ensures _ _ _ _ (rw c.expressions_from.ensures at c.item-offset.ensures) c.body.ensures)
