-- `access::file::File::result` meets its contract: by whether its type is absent.
use Rattle.access.proofs.Access.{result_none, result_some}
use Rattle.access.proofs.file.File.result.Goals as goal

pub returns-in_err-ty : goal.returns-in_err-ty
returns-in_err-ty c = rw (← c.self.view_is) (rw c.from_residual.ensures (result_none _ _ _ c.row_at-row.ensures c.self.inside.bytes.now _ c.body.ensures c.in_err-ty.ensures))

pub returns : goal.returns
returns c = rw (← c.self.view_is) (result_some _ _ _ c.row_at-row.ensures c.self.inside.bytes.now _ _ c.unless_absent-binding.result c.body.ensures c.in_ok-ty.ensures c.body-2.ensures c.unless_absent-binding.ensures)
