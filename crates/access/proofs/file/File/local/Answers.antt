-- `access::file::File::local` meets its contract.
use Rattle.access.proofs.Access.{local_read}
use Rattle.access.proofs.file.File.local.Goals as goal

pub returns : goal.returns
returns c = rw (← c.self.view_is) (local_read _ _ _ c.row_at-row.ensures _ _ _ _ (rw c.locals_from.ensures at c.item-offset.ensures) c.body.ensures)
