-- `judge::paths::fill_paths` meets its contract. The invariant: the entries of the expressions below e are right.
use Rattle.judge.proofs.Marked.{marks_none, marks_next}
use Rattle.judge.proofs.PathSteps.{few, entry_is, filled}
use native.Mathlib.Omega.{arith}
use Rattle.judge.proofs.paths.fill_paths.Goals as goal

pub loop-e-init : goal.loop-e-init
loop-e-init c = marks_none _ _

pub overflow_cast-e : goal.overflow_cast-e
overflow_cast-e c =
    omega (arith, c.loop-e-test.true, c.requires.table_len, few _ _ _ c.requires.bytes_value c.requires.f_in_bounds)

pub loop-e-preserved : goal.loop-e-preserved
loop-e-preserved c =
    marks_next _ _ c.path_entry-r.result (omega (arith, c.loop-e-test.true, c.loop-e.auto.table)) c.loop-e.invariant (entry_is _ _ _ c.requires.bytes_value c.requires.f_in_bounds _ c.path_entry-r.result (omega (arith, c.loop-e-test.true, c.requires.table_len)) c.loop-e.invariant c.path_entry-r.ensures)

pub returns : goal.returns
returns c =
    filled _ _ c.requires.table_len c.loop-e.auto.table (omega (arith, c.loop-e-test.false)) c.loop-e.invariant
