-- `access::file::File::blocks` meets its contract.
use Rattle.access.proofs.file.File.blocks.Goals as goal

pub returns : goal.returns
returns c = rw (← c.self.view_is) (c.blocks-2.ensures c.self.inside.bytes.now)
