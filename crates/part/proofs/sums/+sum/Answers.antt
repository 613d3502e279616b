-- `sum` meets its contract. The measure is the sum of the two numbers.
use Rattle.part.proofs.Summing.{summed_same, summed_known, finish_lt, summed_lt, summed_lt_none, finish_gt, summed_gt, summed_gt_none, summed_eq_none, summed_rest_none, finish_eq, summed_eq}
use Rattle.part.proofs.sums.+sum.Goals as goal

pub returns-then-a-b : goal.returns-then-a-b
returns-then-a-b t c = summed_same (c.requires.good, c.requires.a_bound) c.if-a-b.true

pub returns-in-Some : goal.returns-in-Some
returns-in-Some t c = summed_known (c.requires.good, c.requires.a_bound) c.recall.ensures c.in-Some.is

pub returns-in_err-r : goal.returns-in_err-r
returns-in_err-r t c =
    rw c.from_residual.ensures
    (summed_lt_none (c.requires.good, c.requires.a_bound) c.look-x.ensures c.look-y.ensures c.if-x-y.true c.in_err-r.was c.sum.ensures)

pub finish-requires : goal.finish-requires
finish-requires t c =
    let q9 = finish_lt (c.requires.good, c.requires.a_bound) c.look-x.ensures c.look-y.ensures c.if-x-y.true c.in_ok-r.was c.sum.ensures in
    record { good = q9.0; a_bound = q9.1.0; rested = q9.1.1 }

pub returns-then-x-y : goal.returns-then-x-y
returns-then-x-y t c =
    summed_lt (c.requires.good, c.requires.a_bound) c.look-x.ensures c.look-y.ensures c.if-x-y.true c.sum.ensures c.finish.ensures

pub returns-in_err-r-2 : goal.returns-in_err-r-2
returns-in_err-r-2 t c =
    rw c.from_residual-in_err-r-2.ensures
    (summed_gt_none (c.requires.good, c.requires.a_bound) c.look-x.ensures c.look-y.ensures c.if-y-x.true c.in_err-r-2.was c.sum-then-y-x.ensures)

pub finish-requires-then-y-x : goal.finish-requires-then-y-x
finish-requires-then-y-x t c =
    let q9 = finish_gt (c.requires.good, c.requires.a_bound) c.look-x.ensures c.look-y.ensures c.if-y-x.true c.in_ok-r-2.was c.sum-then-y-x.ensures in
    record { good = q9.0; a_bound = q9.1.0; rested = q9.1.1 }

pub returns-then-y-x : goal.returns-then-y-x
returns-then-y-x t c =
    summed_gt (c.requires.good, c.requires.a_bound) c.look-x.ensures c.look-y.ensures c.if-y-x.true c.sum-then-y-x.ensures c.finish-then-y-x.ensures

pub returns-in_err-c : goal.returns-in_err-c
returns-in_err-c t c =
    rw c.from_residual-in_err-c.ensures
    (summed_eq_none (c.requires.good, c.requires.a_bound) c.look-x.ensures c.look-y.ensures c.if-x-y.false c.if-y-x.false c.sum-2.ensures c.in_err-c.was)

pub returns-in_err-r-3 : goal.returns-in_err-r-3
returns-in_err-r-3 t c =
    rw c.from_residual-in_err-r-3.ensures
    (summed_rest_none (c.requires.good, c.requires.a_bound) c.look-x.ensures c.look-y.ensures c.if-x-y.false c.if-y-x.false c.sum-2.ensures c.in_err-r-3.was c.sum-3.ensures)

pub finish-requires-2 : goal.finish-requires-2
finish-requires-2 t c =
    let q9 = finish_eq (c.requires.good, c.requires.a_bound) c.look-x.ensures c.look-y.ensures c.if-x-y.false c.if-y-x.false c.sum-2.ensures c.in_ok-c.was c.in_ok-r-3.was c.sum-3.ensures in
    record { good = q9.0; a_bound = q9.1.0; rested = q9.1.1 }

pub returns : goal.returns
returns t c =
    summed_eq (c.requires.good, c.requires.a_bound) c.look-x.ensures c.look-y.ensures c.if-x-y.false c.if-y-x.false c.sum-2.ensures c.sum-3.ensures c.finish-2.ensures
