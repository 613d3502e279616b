-- `asks::arms::swizzle_ask` meets its contract. Assumes nothing.
use Rattle.asks.proofs.Telling.{letters-low, swizzle_after, swizzle_refused, swizzle_asked}
use Rattle.asks.proofs.arms.swizzle_ask.Goals as goal

pub returns-then-j-gt0 : goal.returns-then-j-gt0
returns-then-j-gt0 c = swizzle_after _ _ _ c.if-j-gt0.true

pub swizzle-requires-clause-letters : goal.swizzle-requires-clause-letters
swizzle-requires-clause-letters c = letters-low c.requires.each_below c.letters-pattern.ensures

pub returns-in_default : goal.returns-in_default
returns-in_default c =
    swizzle_refused _ _ c.letters-pattern.ensures _ c.if-j-gt0.false c.in_default.ensures

pub returns : goal.returns
returns c =
    swizzle_asked _ _ c.letters-pattern.ensures c.if-j-gt0.false c.in-Some.ensures c.expression_operand-vector.ensures c.want_of-want.ensures
