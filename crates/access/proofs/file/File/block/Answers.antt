-- `access::file::File::block` meets its contract.
use Rattle.access.proofs.Access.{block_read}
use Rattle.access.proofs.file.File.block.Goals as goal

pub returns : goal.returns
returns c = rw (← c.self.view_is) (block_read _ _ _ c.row_at-row.ensures _ _ _ c.block_range.ensures)
