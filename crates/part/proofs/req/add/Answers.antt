-- `add` meets its contract: where one side contains the other, it is the sum.
use mathlib.Core.Path.{sym, ◌∙◌}
use Rattle.part.proofs.Making.{sum_left, call_join, sum_joined}
use Rattle.part.proofs.req.add.Goals as goal

pub returns-then-contains : goal.returns-then-contains
returns-then-contains c =
    sum_left (c.requires.good, (c.requires.a_bound, c.requires.room)) (sym c.if-contains.true ∙ c.contains.ensures)

pub join-requires : goal.join-requires
join-requires c =
    let q9 = call_join (c.requires.good, (c.requires.a_bound, c.requires.room)) in
    record { good = q9.0; a_bound = q9.1.0; room = q9.1.1 }

pub returns : goal.returns
returns c = sum_joined (c.requires.good, (c.requires.a_bound, c.requires.room)) c.join.ensures
