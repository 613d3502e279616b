-- `requests::answer::write_answer` meets its contract: the body, then the header before it.
use mathlib.Core.Path.{refl, ◌∙◌}
use Rattle.requests.proofs.Answers.{verdict_room, lists_fit, records_fit, head_room, answer_written}
use borrow.Author.Rules.{rules}
use Rattle.requests.proofs.answer.write_answer.Goals as goal

pub write_verdict-requires : goal.write_verdict-requires
write_verdict-requires c = (verdict_room c.args.file.now.t c.args.cells.now c.args.slots.now c.args.out.now c.args.f.0 c.args.at c.args.required c.args.visits c.requires.visits_bound.1, c.requires.visits_bound.0)

pub write_lists-requires-clause-fits : goal.write_lists-requires-clause-fits
write_lists-requires-clause-fits c = lists_fit c.args.file.now.t c.args.cells.now c.args.slots.now c.args.out.now c.args.f.0 c.args.at c.args.required c.args.visits c.requires.visits_bound.1 refl refl c.write_verdict.ensures

pub write_records-requires-clause-fits : goal.write_records-requires-clause-fits
write_records-requires-clause-fits c = records_fit c.args.file.now.t c.args.cells.now c.args.slots.now c.args.out.now c.args.f.0 c.args.at c.args.required c.args.visits c.requires.visits_bound.1 refl refl c.write_verdict.ensures c.write_lists.ensures c.records_of-own.ensures

pub head-requires : goal.head-requires
head-requires c = head_room c.args.file.now.t c.args.cells.now c.args.slots.now c.args.out.now c.args.f.0 c.args.at c.args.required c.args.visits c.requires.visits_bound.1 refl refl c.write_verdict.ensures c.write_lists.ensures c.records_of-own.ensures c.write_records.ensures c.requires.visits_len_bound

pub returns : goal.returns
returns c = search rules ∙ answer_written c.args.file.now.t c.args.cells.now c.args.slots.now c.args.out.now c.args.f.0 c.args.at c.args.required c.args.visits c.requires.visits_bound.1 refl refl c.write_verdict.ensures c.write_lists.ensures c.records_of-own.ensures c.write_records.ensures c.head.ensures.is
