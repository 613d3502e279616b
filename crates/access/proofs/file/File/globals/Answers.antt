-- `access::file::File::globals` meets its contract.
use Rattle.access.proofs.file.File.globals.Goals as goal

pub returns : goal.returns
returns c = rw (← c.self.view_is) (c.globals.ensures c.self.inside.bytes.now)
