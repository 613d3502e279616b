-- `access::file::File::arguments` meets its contract.
use Rattle.access.proofs.file.File.arguments.Goals as goal

pub returns : goal.returns
returns c = rw (← c.self.view_is) (c.arguments.ensures c.self.inside.bytes.now)
