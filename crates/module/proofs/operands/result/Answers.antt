-- `module::operands::result` meets its contract.
use mathlib.Core.Path.{sym, ◌∙◌}
use borrow.Author.Tests.{lt-ltb, le-ltb, eq-eqb, ne_eqb}
use Rattle.module.specs.Scan.{pass_of}
use Rattle.module.proofs.Counted.{result_none, result_short, result_yes, result_no}
use Rattle.module.proofs.operands.result.Goals as goal

pub returns-in_err-ty-clause-took : goal.returns-in_err-ty-clause-took
returns-in_err-ty-clause-took c = rw c.from_residual.ensures (result_none _ c.in_err-ty.ensures.split)

pub returns-in_err-binding-clause-took : goal.returns-in_err-binding-clause-took
returns-in_err-binding-clause-took c =
    rw c.from_residual-in_err-binding.ensures (result_short _ c.in_ok-ty.ensures.split c.in_err-binding.ensures.split)

pub returns-then-ty-lt-ABSENT-clause-took : goal.returns-then-ty-lt-ABSENT-clause-took
unfolding pass_of
returns-then-ty-lt-ABSENT-clause-took c =
    result_yes _ c.in_ok-ty.ensures.split c.in_ok-binding.ensures.split (rw (sym c.passes.ensures ∙ c.if-passes.true, sym c.passes-then-passes.ensures ∙ c.if-passes-2.true, lt-ltb _ 65535 c.if-ty-lt-ABSENT.true))

pub returns-then-binding-clause-took : goal.returns-then-binding-clause-took
unfolding pass_of
returns-then-binding-clause-took c =
    result_yes _ c.in_ok-ty.ensures.split c.in_ok-binding.ensures.split (rw (sym c.passes.ensures ∙ c.if-passes.true, sym c.passes-then-passes.ensures ∙ c.if-passes-2.true, le-ltb _ 65535 c.if-ty-lt-ABSENT.false, eq-eqb _ 65535 c.if-binding.true))

pub returns-else-binding-clause-took : goal.returns-else-binding-clause-took
unfolding pass_of
returns-else-binding-clause-took c =
    result_no _ c.in_ok-ty.ensures.split c.in_ok-binding.ensures.split (rw (sym c.passes.ensures ∙ c.if-passes.true, sym c.passes-then-passes.ensures ∙ c.if-passes-2.true, le-ltb _ 65535 c.if-ty-lt-ABSENT.false, ne_eqb _ 65535 c.if-binding.false))

pub returns-else-passes-2-clause-took : goal.returns-else-passes-2-clause-took
unfolding pass_of
returns-else-passes-2-clause-took c =
    result_no _ c.in_ok-ty.ensures.split c.in_ok-binding.ensures.split (rw (sym c.passes.ensures ∙ c.if-passes.true, sym c.passes-then-passes.ensures ∙ c.if-passes-2.false))

pub returns-else-passes-clause-took : goal.returns-else-passes-clause-took
unfolding pass_of
returns-else-passes-clause-took c =
    result_no _ c.in_ok-ty.ensures.split c.in_ok-binding.ensures.split (rw (sym c.passes.ensures ∙ c.if-passes.false))
