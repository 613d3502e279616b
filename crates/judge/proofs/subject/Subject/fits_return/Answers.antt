-- `Subject::fits_return` meets its contract: by whether there is a value, and a result.
use borrow.Author.Rules.{rules}
use Rattle.access.specs.Access.{handle_in}
use Rattle.clearance.specs.Judged.{presently}
use Rattle.judge.proofs.StatementRows.{return_none, return_some}
use Rattle.judge.proofs.subject.Subject.fits_return.Goals as goal

pub returns-in_default : goal.returns-in_default
unfolding handle_in presently
returns-in_default c = search rules

pub returns-in_default-result : goal.returns-in_default-result
unfolding handle_in presently
returns-in_default-result c = rw c.in-Some.is (return_none c.args.self.now.given _ c.result.ensures c.in_default-result.is)

pub returns-then-is_value : goal.returns-then-is_value
unfolding handle_in presently
returns-then-is_value c =
    rw c.in-Some.is (return_some c.args.self.now.given _ c.result.ensures _ c.in-Some-result.is (rw c.in-Some.is at c.requires.maybe_below) (search rules))

pub returns-else-is_value : goal.returns-else-is_value
unfolding handle_in presently
returns-else-is_value c =
    rw c.in-Some.is (return_some c.args.self.now.given _ c.result.ensures _ c.in-Some-result.is (rw c.in-Some.is at c.requires.maybe_below) (search rules))
