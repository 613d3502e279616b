-- `hold::hold::push_sum` meets its contract.
use Rattle.hold.proofs.Pushes.{first_asks, first_pushed, second_asks, second_pushed, second_none}
use Rattle.hold.proofs.hold.push_sum.Goals as goal

pub push-requires : goal.push-requires
push-requires c =
    let q9 = first_asks c.requires.live c.requires.n_in_bounds c.requires.i_lt_n c.sum.ensures c.in-Some.is in
    record { loose = q9.0; n_in_bounds = q9.1.0; p_bound = q9.1.1 }

pub returns-in-Some : goal.returns-in-Some
returns-in-Some c =
    first_pushed c.requires.live c.requires.n_in_bounds c.requires.i_lt_n c.sum.ensures c.in-Some.is c.push.ensures

pub push-requires-in-Some-sum : goal.push-requires-in-Some-sum
push-requires-in-Some-sum c =
    let q9 = second_asks c.requires.live c.requires.n_in_bounds c.requires.i_lt_n c.sum.ensures c.clean.ensures c.sum-2.ensures c.in-Some-sum.is in
    record { loose = q9.0; n_in_bounds = q9.1.0; p_bound = q9.1.1 }

pub returns-in-Some-sum : goal.returns-in-Some-sum
returns-in-Some-sum c =
    second_pushed c.requires.live c.requires.n_in_bounds c.requires.i_lt_n c.sum.ensures c.clean.ensures c.sum-2.ensures c.in-Some-sum.is c.push-in-Some-sum.ensures

pub returns : goal.returns
returns c =
    second_none c.requires.live c.requires.n_in_bounds c.requires.i_lt_n c.sum.ensures c.clean.ensures c.sum-2.ensures c.in_default-sum.is
