-- `module::operands::range` meets its contract.
use mathlib.Core.Path.{◌∙◌}
use borrow.Author.Tests.{le-ltb, le-leb, lt-leb}
use Rattle.module.proofs.Counted.{range_none, range_short, range_yes, range_no, range_free}
use Rattle.module.proofs.operands.range.Goals as goal

pub returns-in_err-first-clause-took : goal.returns-in_err-first-clause-took
returns-in_err-first-clause-took c = rw c.from_residual.ensures (range_none _ _ c.in_err-first.ensures.split)

pub returns-in_err-last-clause-took : goal.returns-in_err-last-clause-took
returns-in_err-last-clause-took c =
    rw c.from_residual-in_err-last.ensures (range_short _ _ c.in_ok-first.ensures.split c.in_err-last.ensures.split)

pub returns-then-last-first-clause-took : goal.returns-then-last-first-clause-took
returns-then-last-first-clause-took c =
    range_no _ _ c.in_ok-first.ensures.split c.in_ok-last.ensures.split (rw (lt-leb _ _ c.if-last-first.true))

pub returns-then-expressions-last-clause-took : goal.returns-then-expressions-last-clause-took
returns-then-expressions-last-clause-took c =
    range_no _ _ c.in_ok-first.ensures.split c.in_ok-last.ensures.split (rw (le-leb _ _ c.if-last-first.false, le-ltb _ _ c.if-expressions-last.true))

pub returns-then-unemitted-clause-took : goal.returns-then-unemitted-clause-took
returns-then-unemitted-clause-took c =
    range_yes _ _ c.in_ok-first.ensures.split c.in_ok-last.ensures.split (range_free _ _ _ _ c.if-last-first.false c.if-expressions-last.false _ c.unemitted.ensures ∙ c.if-unemitted.true)

pub returns-clause-took : goal.returns-clause-took
returns-clause-took c =
    range_no _ _ c.in_ok-first.ensures.split c.in_ok-last.ensures.split (range_free _ _ _ _ c.if-last-first.false c.if-expressions-last.false _ c.unemitted.ensures ∙ c.if-unemitted.false)
