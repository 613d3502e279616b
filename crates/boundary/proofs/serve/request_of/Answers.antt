-- `boundary::serve::request_of` meets its contract: the marks' places are filled in, and the reply is told as a number.
use Rattle.boundary.proofs.serve.request_of.Goals as goal

pub place_marks-requires-clause-was_read : goal.place_marks-requires-clause-was_read
place_marks-requires-clause-was_read c = c.args.typed.now.was_read
