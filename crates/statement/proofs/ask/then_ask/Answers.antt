-- `statement::ask::then_ask` meets its contract. Assumes nothing.
use Rattle.statement.proofs.Asking.{ask_wants, ask_went}
use Rattle.statement.proofs.ask.then_ask.Goals as goal

pub add_expression-requires-clause-wants : goal.add_expression-requires-clause-wants
add_expression-requires-clause-wants c =
    rw c.want_of-w.ensures (ask_wants _ c.in_ok-tally.was c.requires.fact c.requires.e_in_bounds.1)

pub returns : goal.returns
returns c =
    ask_went _ _ c.in_ok-tally.was c.requires.fact c.requires.e_in_bounds.1 (rw c.want_of-w.ensures at c.add_expression.ensures)
