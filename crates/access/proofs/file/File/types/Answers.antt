-- `access::file::File::types` meets its contract.
use Rattle.access.proofs.file.File.types.Goals as goal

pub returns : goal.returns
returns c = rw (← c.self.view_is) (c.types.ensures c.self.inside.bytes.now)
