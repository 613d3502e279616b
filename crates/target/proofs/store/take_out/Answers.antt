-- `take_out` meets its contract: `remove` of the context, with the variable's type. The types of a module that was read are of the sizes that a file may have.
use Rattle.valid.proofs.Accepted.{valid}
use Rattle.type_table.proofs.AllSized.{all_sized}
use Rattle.target.proofs.Taking.{taken}
use Rattle.target.proofs.store.take_out.Goals as goal

pub invariant_of-sized : goal.invariant_of-sized
invariant_of-sized c = record { all_sized = rw c.requires.types_value (all_sized _ (valid _ _ c.requires.bytes_value)) }

pub returns : goal.returns
returns c = taken _ _ _ c.requires.types_value _ _ _ _ c.variable_type-ty.ensures c.remove.ensures
