-- `judge::made::letters_below` meets its contract. The invariant: the first i are below n.
use Rattle.judge.proofs.ValueRows.{each_none, each_all}
use Rattle.judge.proofs.Components.{letter_next, letter_past}
use native.Mathlib.Omega.{arith}
use Rattle.judge.proofs.made.letters_below.Goals as goal

pub loop-i-init : goal.loop-i-init
loop-i-init c = each_none _

pub overflow_add-i : goal.overflow_add-i
overflow_add-i c = omega (arith, c.loop-i-test.true, c.operand-count.ensures, c.requires)

pub returns-then-n-letter : goal.returns-then-n-letter
returns-then-n-letter c =
    letter_past _ _ _ c.operand-count.ensures c.loop-i-test.true c.operand-letter.ensures c.if-n-letter.true

pub loop-i-preserved : goal.loop-i-preserved
loop-i-preserved c = letter_next _ _ c.operand-letter.ensures c.if-n-letter.false c.loop-i.invariant

pub returns : goal.returns
returns c = each_all _ _ _ c.operand-count.ensures c.loop-i-test.false c.loop-i.invariant
