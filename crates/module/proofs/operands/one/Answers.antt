-- `module::operands::one` meets its contract.
use mathlib.Core.Path.{sym, ◌∙◌}
use Rattle.module.proofs.Scanning.{one_none, one-pass, one-fail}
use Rattle.module.proofs.operands.one.Goals as goal

pub returns-in_err-x-clause-took : goal.returns-in_err-x-clause-took
returns-in_err-x-clause-took c = rw c.from_residual.ensures (one_none _ c.in_err-x.ensures.split)

pub returns-then-passes-clause-took : goal.returns-then-passes-clause-took
returns-then-passes-clause-took c = one-pass _ c.in_ok-x.ensures.split (sym c.passes.ensures ∙ c.if-passes.true)

pub returns-clause-took : goal.returns-clause-took
returns-clause-took c = one-fail _ c.in_ok-x.ensures.split (sym c.passes.ensures ∙ c.if-passes.false)
