-- `rounds::settle::answer` meets its contract (Answering).
use Rattle.rounds.proofs.Answering.{answers_deep, answers_wide, answers_fault, answers_clear, answers_start}
use Rattle.rounds.proofs.settle.answer.Goals as goal

pub returns-then-q : goal.returns-then-q
returns-then-q c = answers_deep c.if-q.true

pub returns-then-q-2 : goal.returns-then-q-2
returns-then-q-2 c = answers_wide c.if-q.false c.if-q-2.true

pub returns-in-Some : goal.returns-in-Some
returns-in-Some c = answers_fault c.if-q.false c.if-q-2.false c.in-Some.is

pub returns-then-context_covers : goal.returns-then-context_covers
returns-then-context_covers c =
    answers_clear c.if-q.false c.if-q-2.false c.in_default.is c.context_covers.ensures c.if-context_covers.true

pub returns : goal.returns
returns c =
    answers_start c.if-q.false c.if-q-2.false c.in_default.is c.context_covers.ensures c.if-context_covers.false
