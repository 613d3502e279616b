-- `module::operands::many` meets its contract: what is left of the scan gives the whole, and ends where it did.
use mathlib.Core.Path.{◌∙◌}
use Rattle.module.proofs.Scanning.{many_again, many_stops, many_done}
use native.Mathlib.Omega.{arith}
use Rattle.module.proofs.operands.many.Goals as goal

pub returns-in_err-left-clause-took : goal.returns-in_err-left-clause-took
returns-in_err-left-clause-took c =
    rw c.from_residual.ensures (many_stops _ _ c.loop-k.invariant.0 (omega (arith, c.loop-k-test.true)) c.in_err-left.ensures.took)

pub loop-k-preserved : goal.loop-k-preserved
loop-k-preserved c =
    (many_again _ _ c.loop-k.invariant.0 (omega (arith, c.loop-k-test.true)) c.in_ok-left.ensures.took, c.in_ok-left.ensures.ends ∙ c.loop-k.invariant.1)

pub returns-clause-took : goal.returns-clause-took
returns-clause-took c = many_done _ _ c.loop-k.invariant.0 (omega (arith, c.loop-k-test.false))

pub returns-clause-ends : goal.returns-clause-ends
returns-clause-ends c = c.loop-k.invariant.1
