-- `access::file::File::argument` meets its contract.
use Rattle.access.proofs.Access.{argument_read}
use Rattle.access.proofs.file.File.argument.Goals as goal

pub returns : goal.returns
returns c = rw (← c.self.view_is) (argument_read _ _ _ c.row_at-row.ensures _ _ _ _ _ _ c.item-offset.ensures c.body.ensures c.body-2.ensures c.unless_absent-binding.ensures)
