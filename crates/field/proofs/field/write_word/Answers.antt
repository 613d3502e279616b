-- `field::field::write_word` meets its contract: the highest byte of 32 bits is below 256.
use Rattle.field.specs.Field.{set_field, set_word}
use Rattle.std.proofs.Common.{◌≡◌, ◌+◌, ◌/◌, ◌%◌, arith}
use Rattle.field.proofs.field.write_word.Goals as goal

pub returns : goal.returns
unfolding set_word set_field
returns c =
    let v = c.args.value in
    let last : c.args.at + 2 + 1 ≡ c.args.at + 3 = omega arith in
    let first : v % 65536 % 256 ≡ v % 256 = omega arith in
    let second : v % 65536 / 256 ≡ v / 256 % 256 = omega arith in
    let fourth : v / 65536 / 256 ≡ v / 16777216 % 256 = omega (arith, c.ranges.value.fits) in
    rw (c.to_le_bytes.ensures, last, first, second, fourth)
