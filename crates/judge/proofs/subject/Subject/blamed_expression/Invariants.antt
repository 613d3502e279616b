-- `Subject::blamed_expression` meets its contract. The invariant: the expressions below e are judged.
use Rattle.clearance.specs.Judged.{judged_expression}
use Rattle.judge.specs.Given.{scope_at}
use Rattle.judge.proofs.ValueRows.{Each}
use Rattle.judge.proofs.subject.Subject.blamed_expression.Given as goal

abbrev pub invariant-loop-e : goal.invariant-loop-e
invariant-loop-e l = Each (judged_expression (scope_at l.self.file.now.bytes l.self.file.now.t l.self.f.0)) l.e
