-- `module::operands::many` meets its contract: what is left of the scan gives the whole, and ends where it did.
use Prim.Native.Nat.{◌-◌}
use mathlib.Core.Path.{◌≡◌}
use Rattle.module.specs.Operands.{many}
use Rattle.module.specs.Scan.{pass_of, fields_in}
use Rattle.module.proofs.operands.many.Given as goal

abbrev pub invariant-loop-k : goal.invariant-loop-k
invariant-loop-k l = (many (pass_of l.scope.bytes.now l.scope.t.now l.test) (l.count - l._k) (fields_in l.scope.bytes.now l.left) ≡ many (pass_of l.scope.bytes.now l.scope.t.now l.test) l.count (fields_in l.scope.bytes.now l.initial.left)) × (l.left.end ≡ l.initial.left.end)
