-- `judge::unsized_types::fill_unsized` meets its contract. The invariant: the entries of the types below k are right.
use Rattle.judge.proofs.Marked.{marks_none, marks_next}
use Rattle.judge.proofs.Unsized.{entry_is, filled}
use native.Mathlib.Omega.{arith}
use Rattle.judge.proofs.unsized_types.fill_unsized.Goals as goal

pub loop-k-init : goal.loop-k-init
loop-k-init c = marks_none _ _

pub overflow_cast-k : goal.overflow_cast-k
overflow_cast-k c = omega (arith, c.loop-k-test.true, c.requires.table_len_bound)

pub loop-k-preserved : goal.loop-k-preserved
loop-k-preserved c =
    marks_next _ _ c.unsized_entry-r.result (omega (arith, c.loop-k-test.true, c.loop-k.auto.table)) c.loop-k.invariant (entry_is _ c.requires.lower _ c.unsized_entry-r.result c.loop-k.invariant c.unsized_entry-r.ensures)

pub returns : goal.returns
returns c =
    filled _ _ c.requires.table_len c.loop-k.auto.table (omega (arith, c.loop-k-test.false)) c.loop-k.invariant
