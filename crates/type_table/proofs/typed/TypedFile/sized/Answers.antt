-- `TypedFile::sized` meets its contract: the types of a module that was read are of the sizes that a file may have.
use Rattle.valid.proofs.Accepted.{valid}
use Rattle.type_table.proofs.AllSized.{all_sized}
use Rattle.type_table.proofs.typed.TypedFile.sized.Goals as goal

pub invariant_of-result : goal.invariant_of-result
invariant_of-result c = record { all_sized = rw c.args.self.now.rows (all_sized _ (valid _ _ c.args.self.now.was_read.module_is)) }
