-- `access::file::File::expression` meets its contract.
use Rattle.access.specs.Access.{expression_row}
use Rattle.access.proofs.file.File.expression.Goals as goal

pub returns : goal.returns
unfolding expression_row
returns c = rw (← c.self.view_is, c.body.ensures, c.item-offset.ensures, c.expressions_from.ensures, c.row_at-row.ensures)
