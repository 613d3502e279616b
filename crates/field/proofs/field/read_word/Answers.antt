-- `field::field::read_word` meets its contract.
use Rattle.field.specs.Field.{field_at, word_at}
use Rattle.std.proofs.Common.{◌≡◌, ◌+◌, arith}
use Rattle.field.proofs.field.read_word.Goals as goal

pub returns : goal.returns
unfolding word_at field_at
returns c =
    let last : c.args.at + 2 + 1 ≡ c.args.at + 3 = omega arith in
    rw last (omega (arith, c.from_le_bytes.ensures))
