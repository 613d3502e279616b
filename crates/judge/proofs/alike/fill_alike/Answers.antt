-- `judge::alike::fill_alike` meets its contract. The invariant: the entries of the types below k are right.
use Rattle.judge.proofs.Table.{upto_none, upto_next}
use Rattle.judge.proofs.Steps.{filled}
use native.Mathlib.Omega.{arith}
use Rattle.judge.proofs.alike.fill_alike.Goals as goal

pub loop-k-init : goal.loop-k-init
loop-k-init c = upto_none _ c.requires.lower _

pub overflow_cast-k : goal.overflow_cast-k
overflow_cast-k c = omega (arith, c.loop-k-test.true, c.requires.table_len_bound)

pub lowest-r-requires : goal.lowest-r-requires
lowest-r-requires c = record { lower = c.requires.lower; upto = c.loop-k.invariant }

pub loop-k-preserved : goal.loop-k-preserved
loop-k-preserved c =
    upto_next _ c.requires.lower _ _ _ (omega (arith, c.loop-k-test.true, c.loop-k.auto.table)) c.loop-k.invariant c.lowest-r.ensures

pub returns : goal.returns
returns c =
    filled _ _ c.requires.lower c.requires.table_len c.loop-k.auto.table (omega (arith, c.loop-k-test.false)) c.loop-k.invariant
