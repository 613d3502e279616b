-- `access::file::File::expressions` meets its contract.
use Rattle.access.proofs.file.File.expressions.Goals as goal

pub returns : goal.returns
returns c = rw (← c.self.view_is) (c.expressions.ensures c.self.inside.bytes.now)
