-- `arms::loops::end_turn` meets its contract.
use Rattle.std.proofs.Common.{rules}
use Rattle.arms.proofs.Turned.{turn_limit, turn_tidy, turn_contained, turn_grown}
use Rattle.arms.proofs.loops.end_turn.Goals as goal

pub returns-then-is_none : goal.returns-then-is_none
returns-then-is_none c = turn_limit c.requires c.join.ensures (search rules)

pub returns-then-done : goal.returns-then-done
returns-then-done c =
    turn_contained c.requires c.join.ensures c.drop.ensures (search rules) c.settled-done.ensures c.if-done.true c.lower.ensures

pub tidy-requires : goal.tidy-requires
tidy-requires c =
    let q9 = turn_tidy c.requires c.join.ensures c.drop.ensures in
    record { memory = q9.0; slots_bound = q9.1 }

pub returns : goal.returns
returns c =
    turn_grown c.requires c.join.ensures c.drop.ensures (search rules) c.settled-done.ensures c.if-done.false c.tidy.ensures
