-- `access::file::File::functions` meets its contract.
use Rattle.access.proofs.file.File.functions.Goals as goal

pub returns : goal.returns
returns c = rw (← c.self.view_is) (c.functions.ensures c.self.inside.bytes.now)
