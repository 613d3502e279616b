-- `access::file::File::body_block` meets its contract.
use Rattle.access.proofs.file.File.body_block.Goals as goal

pub returns : goal.returns
returns c = rw (← c.self.view_is) (c.body_block.ensures c.self.inside.bytes.now)
