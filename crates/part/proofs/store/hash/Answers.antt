-- `hash` meets its contract.
use mathlib.Core.Path.{refl}
use Rattle.part.specs.Store.{hash}
use native.Mathlib.Omega.{arith}
use Rattle.part.proofs.store.hash.Goals as goal

pub returns : goal.returns
unfolding hash
returns c = (refl, omega arith)
