-- `module::operands::cases` meets its contract: what is left of the scan gives the whole, and ends where it did.
use mathlib.Core.Path.{◌≡◌}
use mathlib.Core.List.{[]}
use Prim.Native.Nat.{◌-◌}
use Rattle.module.specs.Scan.{fields_in}
use Rattle.module.specs.Operands.{cases_after}
use Rattle.module.proofs.Cases.{Cases}
use Rattle.module.proofs.operands.cases.Given as goal

abbrev pub invariant-loop-k : goal.invariant-loop-k
invariant-loop-k l = (Cases l.stamp l.initial.seen (cases_after [] l.count (fields_in l.scope.bytes.now l.initial.left)) l.seen (fields_in l.scope.bytes.now l.left) (l.count - l._k)) × (l.left.end ≡ l.initial.left.end)
