-- `statement::aim::target_of` meets its contract. Assumes nothing.
use Rattle.statement.proofs.Aiming.{aim_long, aim_at, aim_unresolved}
use Rattle.statement.proofs.aim.target_of.Goals as goal

pub returns-then-over : goal.returns-then-over
returns-then-over c =
    rw c.halt-then-over.ensures (aim_long c.requires c.resolve_var.ensures c.in-Some.is c.over.ensures c.if-over.true)

pub returns : goal.returns
returns c =
    aim_at c.requires c.resolve_var.ensures c.in-Some.is c.load_context-c.ensures c.over.ensures c.if-over.false c.store_required-needed.ensures

pub returns-in_default : goal.returns-in_default
returns-in_default c = rw c.halt.ensures (aim_unresolved c.requires c.resolve_var.ensures c.in_default.is)
