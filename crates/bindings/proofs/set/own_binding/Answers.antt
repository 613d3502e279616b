-- `bindings::set::own_binding` meets its contract: by whether there is a binding.
use Rattle.bindings.specs.Bindings.{own_binding}
use Rattle.bindings.proofs.Rows.{single_fits}
use Rattle.bindings.proofs.set.own_binding.Goals as goal

pub returns-in-None : goal.returns-in-None
unfolding own_binding
returns-in-None c = rw c.in-None.is

pub overflow_shl-result : goal.overflow_shl-result
overflow_shl-result c = rw c.in-Some.is at c.requires

pub returns-in-Some : goal.returns-in-Some
returns-in-Some c = rw c.in-Some.is (single_fits _ (rw c.in-Some.is at c.requires))
