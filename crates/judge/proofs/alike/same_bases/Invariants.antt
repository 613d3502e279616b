-- `judge::alike::same_bases` meets its contract. The invariant: the first i are alike by the table.
use lib.ListN.{get_or}
use Rattle.module.specs.Module.{Opaque}
use Rattle.context.specs.Types.{types_of}
use Rattle.clearance.specs.Scope.{bases}
use Rattle.judge.proofs.Steps.{Compared}
use Rattle.judge.proofs.alike.same_bases.Given as goal

abbrev pub invariant-loop-i : goal.invariant-loop-i
invariant-loop-i l = Compared l.table (bases (get_or (types_of l.types) l.a.0 Opaque)) (bases (get_or (types_of l.types) l.b.0 Opaque)) l.i
