-- `judge::alike::lowest` meets its contract. The invariant: no type below j is alike.
use Rattle.context.specs.Types.{types_of}
use Rattle.judge.proofs.Steps.{Passed}
use Rattle.judge.proofs.alike.lowest.Given as goal

abbrev pub invariant-loop-j : goal.invariant-loop-j
invariant-loop-j l = Passed (types_of l.types) l.k.0 l.j
