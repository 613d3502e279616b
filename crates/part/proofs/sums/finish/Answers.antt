-- `finish` meets its contract.
use Rattle.part.proofs.Write.{found_fresh}
use Rattle.part.proofs.Summing.{finish_short, finish_known, finish_done}
use Rattle.part.proofs.sums.finish.Goals as goal

pub remember-requires : goal.remember-requires
remember-requires c =
    let q9 = finish_known c.requires.good c.requires.a_bound c.requires.rested (found_fresh c.requires.good c.in-Some.ensures) in
    record { good = q9.0; known = q9.1 }

pub returns-in-Some : goal.returns-in-Some
returns-in-Some c =
    finish_done c.requires.good c.requires.a_bound c.requires.rested (found_fresh c.requires.good c.in-Some.ensures) c.remember.ensures

pub returns-then-cells-next : goal.returns-then-cells-next
returns-then-cells-next c =
    finish_short c.requires.good c.requires.a_bound c.requires.rested c.in_default.ensures c.if-cells-next.true

pub returns : goal.returns
returns c = finish_done c.requires.good c.requires.a_bound c.requires.rested c.fresh-n.ensures c.remember-2.ensures
