-- `judge::made::parts_fit` meets its contract. The invariant: the first i fit.
use Prim.Native.Nat.{◌+◌}
use Rattle.access.specs.Access.{operand_at}
use Rattle.clearance.specs.Scope.{inner, inner_of}
use Rattle.clearance.specs.Judged.{part_type, same_part}
use Rattle.judge.specs.Given.{scope_at}
use Rattle.judge.proofs.ValueRows.{Each}
use Rattle.judge.proofs.made.parts_fit.Given as goal

abbrev pub invariant-loop-i : goal.invariant-loop-i
invariant-loop-i l = Each (λ k. same_part (scope_at l.expression.subject.now.file.now.bytes l.expression.subject.now.file.now.t l.expression.subject.now.f.0) (part_type (scope_at l.expression.subject.now.file.now.bytes l.expression.subject.now.file.now.t l.expression.subject.now.f.0) (inner (scope_at l.expression.subject.now.file.now.bytes l.expression.subject.now.file.now.t l.expression.subject.now.f.0) l.a.0) k) (inner_of (scope_at l.expression.subject.now.file.now.bytes l.expression.subject.now.file.now.t l.expression.subject.now.f.0) (operand_at l.expression.subject.now.file.now.bytes l.expression.row (1 + k)))) l.i
