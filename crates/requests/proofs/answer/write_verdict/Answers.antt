-- `requests::answer::write_verdict` meets its contract.
use Rattle.requests.proofs.Answers.{verdict_writes, visits_fit}
use Rattle.requests.proofs.answer.write_verdict.Goals as goal

pub word-requires : goal.word-requires
word-requires c = visits_fit c.args.required c.args.visits c.requires.0 c.field.ensures

pub returns : goal.returns
returns c = verdict_writes c.args.required c.args.visits c.from.ensures c.field.ensures c.word.ensures
