-- `tickingtor_read` meets its contract: it is `read` over arrays of its own.
use Rattle.boundary.proofs.Answers.{read_is}
use Rattle.tickingtor.proofs.file.tickingtor_read.Goals as goal

pub returns-in-Ok : goal.returns-in-Ok
returns-in-Ok c = read_is _ _ _ c.in-Ok.ensures

pub returns-in-Err : goal.returns-in-Err
returns-in-Err c = rw c.from.ensures (read_is _ _ _ c.in-Err.ensures)
