-- `access::file::File::locals` meets its contract.
use Rattle.access.proofs.file.File.locals.Goals as goal

pub returns : goal.returns
returns c = rw (← c.self.view_is) (c.locals.ensures c.self.inside.bytes.now)
