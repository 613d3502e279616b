-- `access::file::File::global` meets its contract.
use Rattle.access.specs.Access.{global_at}
use Rattle.access.proofs.file.File.global.Goals as goal

pub returns : goal.returns
unfolding global_at
returns c = rw (← c.self.view_is) (c.global_type.ensures)
