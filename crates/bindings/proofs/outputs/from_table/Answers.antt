-- `bindings::outputs::from_table` meets its contract: one type more a turn.
use native.Mathlib.Omega.{arith}
use Rattle.bindings.proofs.Members.{filling_more}
use Rattle.bindings.proofs.outputs.from_table.Goals as goal

pub loop-t-preserved : goal.loop-t-preserved
loop-t-preserved c = filling_more _ _ c.loop-t.invariant (omega arith) c.from_type-r.ensures
