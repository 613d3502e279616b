-- `access::file::File::expression_number` meets its contract.
use Rattle.access.proofs.file.File.expression_number.Goals as goal

pub returns : goal.returns
returns c = rw (← c.self.view_is, c.expressions_from.ensures, c.row_at-row.ensures)
