-- `boundary::serve::reply_word` meets its contract.
use Rattle.boundary.proofs.Requests.{word_visits, word_refused}
use Rattle.boundary.proofs.serve.reply_word.Goals as goal

pub returns-in-Ok : goal.returns-in-Ok
returns-in-Ok c = word_visits c.in-Ok.is

pub returns-in-Err : goal.returns-in-Err
returns-in-Err c = rw c.refused_word.ensures (word_refused c.in-Err.is c.from.ensures c.place_word.ensures.0)
