-- `judge::unsized_types::some_base` meets its contract. The invariant: none of the first i is marked.
use lib.ListN.{get_or}
use Rattle.module.specs.Module.{Opaque}
use Rattle.context.specs.Types.{types_of}
use Rattle.clearance.specs.Scope.{bases}
use Rattle.judge.proofs.Unsized.{Unmarked}
use Rattle.judge.proofs.unsized_types.some_base.Given as goal

abbrev pub invariant-loop-i : goal.invariant-loop-i
invariant-loop-i l = Unmarked l.table (bases (get_or (types_of l.types) l.t.0 Opaque)) l.i
