-- `judge::made::joins` meets its contract. The invariant: the first i are scalars and vectors, of `total` components.
use Prim.Native.Nat.{◌+◌}
use Rattle.access.specs.Access.{operand_at}
use Rattle.judge.specs.Given.{scope_at}
use Rattle.judge.proofs.Components.{Joined}
use Rattle.judge.proofs.made.joins.Given as goal

abbrev pub invariant-loop-i : goal.invariant-loop-i
invariant-loop-i l = Joined (scope_at l.expression.subject.now.file.now.bytes l.expression.subject.now.file.now.t l.expression.subject.now.f.0) (λ k. operand_at l.expression.subject.now.file.now.bytes l.expression.row (1 + k)) l.i l.total
