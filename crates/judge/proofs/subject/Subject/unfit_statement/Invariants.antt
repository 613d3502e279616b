-- `Subject::unfit_statement` meets its contract. The invariant: the statements below s fit.
use Rattle.access.specs.Access.{statement_at}
use Rattle.clearance.specs.Judged.{fits_statement}
use Rattle.judge.specs.Given.{scope_at}
use Rattle.judge.proofs.ValueRows.{Each}
use Rattle.judge.proofs.subject.Subject.unfit_statement.Given as goal

abbrev pub invariant-loop-s : goal.invariant-loop-s
invariant-loop-s l = Each (λ k. fits_statement (scope_at l.self.file.now.bytes l.self.file.now.t l.self.f.0) (statement_at l.self.file.now.bytes l.self.file.now.t l.self.f.0 k)) l.s
