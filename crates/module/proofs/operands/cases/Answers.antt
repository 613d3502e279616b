-- `module::operands::cases` meets its contract: what is left of the scan gives the whole, and ends where it did.
use mathlib.Core.Path.{◌≡◌, refl, sym, ◌∙◌}
use mathlib.Core.List.{[]}
use Prim.Native.Nat.{◌+◌, ◌-◌}
use Rattle.module.specs.Operands.{cases_after}
use Rattle.module.proofs.Counted.{counted_none, counted-by}
use Rattle.module.proofs.Cases.{cases_first, cases_none, cases_short, cases_twice, cases_again, cases_done, cases_no_default}
use native.Mathlib.Omega.{arith}
use Rattle.module.proofs.operands.cases.Goals as goal

pub returns-in_err-count-clause-took : goal.returns-in_err-count-clause-took
returns-in_err-count-clause-took c = rw c.from_residual.ensures (counted_none _ c.in_err-count.ensures.split)

pub loop-k-init : goal.loop-k-init
loop-k-init c =
    let all : c.in_ok-count.count - 0 ≡ c.in_ok-count.count = omega arith in
    (rw all (cases_first _ _ _ _ c.requires.fresh), refl)

pub returns-in_err-value-clause-took : goal.returns-in_err-value-clause-took
returns-in_err-value-clause-took c =
    rw c.from_residual-in_err-value.ensures (counted-by (cases_after []) c.in_ok-count.ensures.split (cases_none c.loop-k.invariant.0 (omega (arith, c.loop-k-test.true)) c.in_err-value.ensures.split))

pub returns-in_err-_block-clause-took : goal.returns-in_err-_block-clause-took
returns-in_err-_block-clause-took c =
    rw c.from_residual-in_err-_block.ensures (counted-by (cases_after []) c.in_ok-count.ensures.split (cases_short c.loop-k.invariant.0 (omega (arith, c.loop-k-test.true)) c.in_ok-value.ensures.split c.in_err-_block.ensures.split))

pub returns-then-word-stamp-clause-took : goal.returns-then-word-stamp-clause-took
returns-then-word-stamp-clause-took c =
    counted-by (cases_after []) c.in_ok-count.ensures.split (cases_twice c.loop-k.invariant.0 (omega (arith, c.loop-k-test.true)) (omega (arith, c.loop-k-test.true)) c.in_ok-value.ensures.split c.in_ok-_block.ensures.split (sym c.word.ensures ∙ c.if-word-stamp.true))

pub loop-k-preserved : goal.loop-k-preserved
loop-k-preserved c =
    let less : c.in_ok-count.count - (c.loop-k._k + 1) ≡ c.in_ok-count.count - c.loop-k._k - 1 = omega arith in
    (rw (c.put.ensures, less) (cases_again c.loop-k.invariant.0 (omega (arith, c.loop-k-test.true)) (omega (arith, c.loop-k-test.true)) c.in_ok-value.ensures.split c.in_ok-_block.ensures.split c.requires.fresh.room (λ q. c.if-word-stamp.false (c.word.ensures ∙ q))), c.in_ok-_block.ensures.ends ∙ c.in_ok-value.ensures.ends ∙ c.loop-k.invariant.1)

pub returns-then-word-stamp-2-clause-took : goal.returns-then-word-stamp-2-clause-took
returns-then-word-stamp-2-clause-took c =
    counted-by (cases_after []) c.in_ok-count.ensures.split (cases_done c.loop-k.invariant.0 (omega (arith, c.loop-k-test.false)) (sym c.word-2.ensures ∙ c.if-word-stamp-2.true))

pub returns-clause-took : goal.returns-clause-took
returns-clause-took c =
    counted-by (cases_after []) c.in_ok-count.ensures.split (cases_no_default c.loop-k.invariant.0 (omega (arith, c.loop-k-test.false)) (λ q. c.if-word-stamp-2.false (c.word-2.ensures ∙ q)))

pub returns-then-word-stamp-2-clause-ends : goal.returns-then-word-stamp-2-clause-ends
returns-then-word-stamp-2-clause-ends c = c.loop-k.invariant.1 ∙ c.in_ok-count.ensures.ends
