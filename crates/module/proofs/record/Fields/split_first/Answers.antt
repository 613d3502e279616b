-- `module::record::Fields::split_first` meets its contract.
use native.Mathlib.Omega.{arith}
use Rattle.module.specs.Record.{fields_to}
use Rattle.module.proofs.Scanning.{fields_cons}
use Rattle.module.proofs.record.Fields.split_first.Goals as goal

pub returns-then-self-eq0-clause-split : goal.returns-then-self-eq0-clause-split
unfolding fields_to
returns-then-self-eq0-clause-split c = rw c.if-self-eq0.true

pub returns-clause-split : goal.returns-clause-split
returns-clause-split c = rw c.get-first.ensures (fields_cons _ _ _ (omega arith))
