-- `module::operands::list` meets its contract.
use Rattle.module.specs.Operands.{many, below}
use Rattle.module.specs.Scan.{pass_of}
use Rattle.module.proofs.Counted.{counted_none, counted-by}
use Rattle.module.proofs.operands.list.Goals as goal

pub returns-in_err-count-clause-took : goal.returns-in_err-count-clause-took
returns-in_err-count-clause-took c = rw c.from_residual.ensures (counted_none _ c.in_err-count.ensures.split)

pub returns-clause-took : goal.returns-clause-took
unfolding pass_of
returns-clause-took c = counted-by (many (below c.args.scope.now.counts.row.expressions)) c.in_ok-count.ensures.split c.many.ensures.took

pub returns-clause-ends : goal.returns-clause-ends
returns-clause-ends c = rw c.in_ok-count.ensures.ends at c.many.ensures.ends
