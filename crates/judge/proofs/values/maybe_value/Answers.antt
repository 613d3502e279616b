-- `judge::values::maybe_value` meets its contract: by whether the operand is there.
use borrow.Author.Rules.{rules}
use Rattle.access.specs.Access.{handle_in}
use Rattle.clearance.specs.Judged.{presently}
use Rattle.judge.proofs.values.maybe_value.Goals as goal

pub returns-in-None : goal.returns-in-None
unfolding handle_in presently
returns-in-None c = search rules

pub returns-in-Some : goal.returns-in-Some
unfolding handle_in presently
returns-in-Some c = search rules
