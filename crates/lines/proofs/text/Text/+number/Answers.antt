-- `lines::text::Text::number` meets its contract. The measure is the number.
use Rattle.lines.proofs.Numbers.{digit_fits, digit_writes, tenth_fits, last_fits, number_writes}
use Rattle.lines.proofs.text.Text.+number.Goals as goal

pub byte-requires : goal.byte-requires
byte-requires t c = digit_fits c.if-n-lt10.true c.digit.ensures c.requires

pub returns-then-n-lt10 : goal.returns-then-n-lt10
returns-then-n-lt10 t c = digit_writes c.if-n-lt10.true c.digit.ensures c.byte.ensures

pub number-requires : goal.number-requires
number-requires t c = tenth_fits c.decreases c.if-n-lt10.false c.requires

pub byte-requires-2 : goal.byte-requires-2
byte-requires-2 t c = last_fits c.if-n-lt10.false c.digit-2.ensures c.requires c.number.ensures

pub returns : goal.returns
returns t c =
    number_writes c.if-n-lt10.false c.digit-2.ensures c.number.ensures c.byte-2.ensures
