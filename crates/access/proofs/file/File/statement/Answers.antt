-- `access::file::File::statement` meets its contract.
use Rattle.access.specs.Access.{statement_row}
use Rattle.access.proofs.file.File.statement.Goals as goal

pub returns : goal.returns
unfolding statement_row
returns c = rw (← c.self.view_is, c.body.ensures, c.item-offset.ensures, c.statements_from.ensures, c.row_at-row.ensures)
