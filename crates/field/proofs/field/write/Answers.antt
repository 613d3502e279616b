-- `field::field::write` meets its contract: the high byte of 16 bits is below 256.
use Rattle.field.specs.Field.{set_field}
use Rattle.std.proofs.Common.{◌≡◌, ◌/◌, ◌%◌, arith}
use Rattle.field.proofs.field.write.Goals as goal

pub returns : goal.returns
unfolding set_field
returns c =
    let high : c.args.value / 256 % 256 ≡ c.args.value / 256 = omega (arith, c.ranges.value.fits) in
    rw (c.to_le_bytes.ensures, high)
