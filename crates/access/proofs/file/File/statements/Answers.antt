-- `access::file::File::statements` meets its contract.
use Rattle.access.proofs.file.File.statements.Goals as goal

pub returns : goal.returns
returns c = rw (← c.self.view_is) (c.statements.ensures c.self.inside.bytes.now)
