-- `statement::store::take` meets its contract. Assumes nothing.
use Rattle.statement.proofs.Taking.{take_panics, take_long, take_done}
use Rattle.statement.proofs.store.take.Goals as goal

pub returns-then-over : goal.returns-then-over
returns-then-over c =
    rw c.halt-then-over.ensures (take_long c.requires c.load_context-c.ensures c.take_out.ensures c.in-Some.is c.over.ensures c.if-over.true)

pub returns : goal.returns
returns c =
    take_done c.requires c.load_context-c.ensures c.take_out.ensures c.in-Some.is c.save_context.ensures c.over.ensures c.if-over.false

pub returns-in_default : goal.returns-in_default
returns-in_default c =
    rw c.halt.ensures (take_panics c.requires c.load_context-c.ensures c.take_out.ensures c.in_default.is)
