-- `module::operands::members` meets its contract.
use Rattle.module.specs.Operands.{pairs, below, below_or_absent, bindings}
use Rattle.module.specs.Scan.{pass_of}
use Rattle.module.proofs.Counted.{counted_none, counted-by}
use Rattle.module.proofs.operands.members.Goals as goal

pub returns-in_err-count-clause-took : goal.returns-in_err-count-clause-took
returns-in_err-count-clause-took c = rw c.from_residual.ensures (counted_none _ c.in_err-count.ensures.split)

pub returns-clause-took : goal.returns-clause-took
unfolding pass_of
returns-clause-took c =
    counted-by (pairs (below c.args.scope.now.counts.types) (below_or_absent bindings)) c.in_ok-count.ensures.split c.pairs.ensures.took

pub returns-clause-ends : goal.returns-clause-ends
returns-clause-ends c = rw c.in_ok-count.ensures.ends at c.pairs.ensures.ends
