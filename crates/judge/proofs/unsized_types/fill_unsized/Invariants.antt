-- `judge::unsized_types::fill_unsized` meets its contract. The invariant: the entries of the types below k are right.
use Rattle.context.specs.Types.{types_of}
use Rattle.judge.proofs.Marked.{Marks}
use Rattle.judge.proofs.Unsized.{holds_among}
use Rattle.judge.proofs.unsized_types.fill_unsized.Given as goal

abbrev pub invariant-loop-k : goal.invariant-loop-k
invariant-loop-k l = Marks (holds_among (types_of l.types)) l.table l.k
