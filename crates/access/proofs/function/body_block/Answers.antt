-- `access::function::body_block` meets its contract.
use native.Mathlib.Omega.{arith}
use Rattle.access.proofs.function.body_block.Goals as goal

pub returns : goal.returns
returns c = λ bytes. omega (arith, c.blocks-2.ensures bytes, c.saturating_sub.ensures)
