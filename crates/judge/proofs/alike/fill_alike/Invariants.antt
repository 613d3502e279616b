-- `judge::alike::fill_alike` meets its contract. The invariant: the entries of the types below k are right.
use Rattle.context.specs.Types.{types_of}
use Rattle.judge.specs.Alike.{Upto}
use Rattle.judge.proofs.alike.fill_alike.Given as goal

abbrev pub invariant-loop-k : goal.invariant-loop-k
invariant-loop-k l = Upto (types_of l.types) l.table l.k
