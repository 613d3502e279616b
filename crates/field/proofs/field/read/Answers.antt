-- `field::field::read` meets its contract.
use Rattle.field.specs.Field.{field_at}
use Rattle.std.proofs.Common.{arith}
use Rattle.field.proofs.field.read.Goals as goal

pub returns : goal.returns
unfolding field_at
returns c = omega (arith, c.from_le_bytes.ensures)
