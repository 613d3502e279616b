-- `boundary::serve::place_word` meets its contract.
use Rattle.boundary.proofs.Requests.{at-expression, at-statement, at_nowhere}
use Rattle.boundary.proofs.serve.place_word.Goals as goal

pub returns-in-Expression : goal.returns-in-Expression
returns-in-Expression c = at-expression c.in-Expression.is

pub returns-in-Statement : goal.returns-in-Statement
returns-in-Statement c = at-statement c.in-Statement.is

pub returns-in-Nowhere : goal.returns-in-Nowhere
returns-in-Nowhere c = at_nowhere c.in-Nowhere.is
