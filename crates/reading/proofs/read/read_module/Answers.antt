-- `reading::read::read_module` meets its contract: it is `read` over arrays of its own.
use Rattle.reading.proofs.read.read_module.Goals as goal

pub returns : goal.returns
returns c = c.read.ensures
