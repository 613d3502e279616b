-- `context_bytes::find::find_entry` meets its contract: one law for each way. What is left has the same entry (`Finding`).
use Prim.Native.Nat.{◌-◌}
use Rattle.context_bytes.proofs.Found.{Finding}
use Rattle.context_bytes.proofs.find.find_entry.Given as goal

abbrev pub invariant-loop : goal.invariant-loop
invariant-loop l = Finding l.bytes l.depth l.n l.i l.left l.least (l.n - l.counter)
