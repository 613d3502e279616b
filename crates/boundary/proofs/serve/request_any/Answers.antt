-- `boundary::serve::request_any` meets its contract: the file's refusal, or what is answered of the module that was read.
use mathlib.Core.Path.{refl}
use Rattle.boundary.proofs.Requests.{requests_refused, requests_of}
use Rattle.boundary.proofs.serve.request_any.Goals as goal

pub returns-in-Err : goal.returns-in-Err
returns-in-Err c =
    requests_refused c.in-Err.ensures c.in-Err.refusal refl (rw c.into.ensures at c.reply_word.ensures)

pub returns : goal.returns
returns c =
    requests_of c.in_default.ensures refl (rw (c.new.ensures.bytes, c.new.ensures.tables) at c.request_in.ensures)
