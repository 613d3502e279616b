-- `rounds::settle::settle_rounds` meets its contract. The invariant: what is left of the rounds is the whole, whatever was asked (Turns).
use Prim.Native.Nat.{◌+◌, ◌-◌}
use mathlib.Core.Path.{◌≡◌, refl}
use Rattle.pass.specs.Checked.{max_rounds}
use Rattle.rounds.proofs.Turns.{turning_none, turning_full, turning_last, turning_again}
use native.Mathlib.Omega.{arith}
use Rattle.rounds.proofs.settle.settle_rounds.Goals as goal

pub returns-in_default : goal.returns-in_default
returns-in_default c =
    turning_full c.args.marked.now.marks.now c.loop.invariant (omega (arith, c.loop-test.true)) c.in_default.ensures _ refl

pub returns-then-q : goal.returns-then-q
returns-then-q c =
    turning_last c.args.marked.now.marks.now c.loop.invariant (omega (arith, c.loop-test.true)) c.in-Some.ensures _ refl c.if-q.true c.answer.ensures

pub loop-preserved : goal.loop-preserved
loop-preserved c =
    let less : max_rounds - c.loop.counter - 1 ≡ max_rounds - (c.loop.counter + 1) = omega arith in
    rw (← less)
    (turning_again c.args.marked.now.marks.now c.loop.invariant (omega (arith, c.loop-test.true)) c.in-Some.ensures refl c.if-q.false c.renew.ensures)

pub returns : goal.returns
returns c =
    turning_none c.args.marked.now.marks.now c.loop.invariant _ (omega (arith, c.loop-test.false))
