-- `join` meets its contract. The measure is the sum of the two numbers.
use Rattle.part.proofs.Making.{sum_same, call_lt, make_lt, done_lt, call_gt, make_gt, done_gt, call_eq, call_eq_rest, make_eq, done_eq}
use Rattle.part.proofs.req.+join.Goals as goal

pub returns-then-a-b : goal.returns-then-a-b
returns-then-a-b t c = sum_same (c.requires.good, (c.requires.a_bound, c.requires.room)) c.if-a-b.true

pub join-r-requires : goal.join-r-requires
join-r-requires t c =
    call_lt (c.requires.good, (c.requires.a_bound, c.requires.room)) c.look-x.ensures c.look-y.ensures c.if-x-y.true c.decreases

pub remake-requires : goal.remake-requires
remake-requires t c =
    let q9 = make_lt (c.requires.good, (c.requires.a_bound, c.requires.room)) c.look-x.ensures c.look-y.ensures c.if-x-y.true c.join-r.ensures in
    record { good = q9.0; room = q9.1.0; child_bound = q9.1.1.0; holds = q9.1.1.1 }

pub returns-then-x-y : goal.returns-then-x-y
returns-then-x-y t c =
    done_lt (c.requires.good, (c.requires.a_bound, c.requires.room)) c.look-x.ensures c.look-y.ensures c.if-x-y.true c.join-r.ensures c.remake.ensures

pub join-r-requires-then-y-x : goal.join-r-requires-then-y-x
join-r-requires-then-y-x t c =
    call_gt (c.requires.good, (c.requires.a_bound, c.requires.room)) c.look-x.ensures c.look-y.ensures c.if-y-x.true c.decreases

pub remake-requires-then-y-x : goal.remake-requires-then-y-x
remake-requires-then-y-x t c =
    let q9 = make_gt (c.requires.good, (c.requires.a_bound, c.requires.room)) c.look-x.ensures c.look-y.ensures c.if-y-x.true c.join-r-then-y-x.ensures in
    record { good = q9.0; room = q9.1.0; child_bound = q9.1.1.0; holds = q9.1.1.1 }

pub returns-then-y-x : goal.returns-then-y-x
returns-then-y-x t c =
    done_gt (c.requires.good, (c.requires.a_bound, c.requires.room)) c.look-x.ensures c.look-y.ensures c.if-y-x.true c.join-r-then-y-x.ensures c.remake-then-y-x.ensures

pub join-c-requires : goal.join-c-requires
join-c-requires t c =
    call_eq (c.requires.good, (c.requires.a_bound, c.requires.room)) c.look-x.ensures c.look-y.ensures c.if-x-y.false c.if-y-x.false c.decreases

pub join-r-requires-2 : goal.join-r-requires-2
join-r-requires-2 t c =
    call_eq_rest (c.requires.good, (c.requires.a_bound, c.requires.room)) c.look-x.ensures c.look-y.ensures c.if-x-y.false c.if-y-x.false c.join-c.ensures c.decreases

pub remake-requires-2 : goal.remake-requires-2
remake-requires-2 t c =
    let q9 = make_eq (c.requires.good, (c.requires.a_bound, c.requires.room)) c.look-x.ensures c.look-y.ensures c.if-x-y.false c.if-y-x.false c.join-c.ensures c.join-r-2.ensures in
    record { good = q9.0; room = q9.1.0; child_bound = q9.1.1.0; holds = q9.1.1.1 }

pub returns : goal.returns
returns t c =
    done_eq (c.requires.good, (c.requires.a_bound, c.requires.room)) c.look-x.ensures c.look-y.ensures c.if-x-y.false c.if-y-x.false c.join-c.ensures c.join-r-2.ensures c.remake-2.ensures
