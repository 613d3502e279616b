-- `module::operands::pairs` meets its contract: what is left of the scan gives the whole, and ends where it did.
use mathlib.Core.Path.{◌∙◌}
use Rattle.module.proofs.Scanning.{pairs_again, pairs_stop, pairs_stop_second, pairs_done}
use native.Mathlib.Omega.{arith}
use Rattle.module.proofs.operands.pairs.Goals as goal

pub returns-in_err-second-clause-took : goal.returns-in_err-second-clause-took
returns-in_err-second-clause-took c =
    rw c.from_residual.ensures (pairs_stop _ _ _ c.loop-k.invariant.0 (omega (arith, c.loop-k-test.true)) c.in_err-second.ensures.took)

pub returns-in_err-left-clause-took : goal.returns-in_err-left-clause-took
returns-in_err-left-clause-took c =
    rw c.from_residual-in_err-left.ensures (pairs_stop_second _ _ _ _ c.loop-k.invariant.0 (omega (arith, c.loop-k-test.true)) c.in_ok-second.ensures.took c.in_err-left.ensures.took)

pub loop-k-preserved : goal.loop-k-preserved
loop-k-preserved c =
    (pairs_again _ _ _ _ c.loop-k.invariant.0 (omega (arith, c.loop-k-test.true)) c.in_ok-second.ensures.took c.in_ok-left.ensures.took, c.in_ok-left.ensures.ends ∙ c.in_ok-second.ensures.ends ∙ c.loop-k.invariant.1)

pub returns-clause-took : goal.returns-clause-took
returns-clause-took c = pairs_done _ _ _ c.loop-k.invariant.0 (omega (arith, c.loop-k-test.false))

pub returns-clause-ends : goal.returns-clause-ends
returns-clause-ends c = c.loop-k.invariant.1
