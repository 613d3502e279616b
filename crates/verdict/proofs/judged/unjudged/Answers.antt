-- `verdict::judged::unjudged` meets its contract: the lowest expression comes first.
use Rattle.verdict.proofs.Filling.{at-expression, at-statement, all_judged}
use Rattle.verdict.proofs.judged.unjudged.Goals as goal

pub returns-in-Some : goal.returns-in-Some
returns-in-Some c =
    at-expression c.args.subject.now.file.now.bytes c.args.subject.now.file.now.t c.args.subject.now.f.0 c.blamed_expression.ensures c.in-Some.is

pub returns-in_err-s : goal.returns-in_err-s
returns-in_err-s c =
    rw c.from_residual.ensures (all_judged c.args.subject.now.file.now.bytes c.args.subject.now.file.now.t c.args.subject.now.f.0 c.blamed_expression.ensures c.in_default.is c.blamed_statement.ensures c.in_err-s.was)

pub returns : goal.returns
returns c =
    at-statement c.args.subject.now.file.now.bytes c.args.subject.now.file.now.t c.args.subject.now.f.0 c.blamed_expression.ensures c.in_default.is c.blamed_statement.ensures c.in_ok-s.was
