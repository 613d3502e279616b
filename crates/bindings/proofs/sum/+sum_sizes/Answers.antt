-- `sum_sizes` meets its contract. The measure is the sum of the two numbers.
use Rattle.bindings.proofs.Sums.{sizes_same, fit_lt, sizes_lt, fit_gt, sizes_gt, fit_eq, sizes_eq}
use Rattle.bindings.proofs.sum.+sum_sizes.Goals as goal

pub returns-then-a-b : goal.returns-then-a-b
returns-then-a-b t c = sizes_same (c.requires.good, c.requires.a_bound) c.if-a-b.true c.measure.ensures

pub sizes_of-requires : goal.sizes_of-requires
sizes_of-requires t c =
    let q9 = fit_lt (c.requires.good, c.requires.a_bound) c.look-x.ensures c.look-y.ensures c.measure-p.ensures c.sum_sizes.ensures in
    record { entries_le_entries_cap = q9.0; depth_le_store_words = q9.1 }

pub returns-then-x-y : goal.returns-then-x-y
returns-then-x-y t c =
    sizes_lt (c.requires.good, c.requires.a_bound) c.look-x.ensures c.look-y.ensures c.if-x-y.true c.measure-p.ensures c.sum_sizes.ensures c.sizes_of.ensures

pub sizes_of-requires-then-y-x : goal.sizes_of-requires-then-y-x
sizes_of-requires-then-y-x t c =
    let q9 = fit_gt (c.requires.good, c.requires.a_bound) c.look-x.ensures c.look-y.ensures c.measure-p-then-y-x.ensures c.sum_sizes-then-y-x.ensures in
    record { entries_le_entries_cap = q9.0; depth_le_store_words = q9.1 }

pub returns-then-y-x : goal.returns-then-y-x
returns-then-y-x t c =
    sizes_gt (c.requires.good, c.requires.a_bound) c.look-x.ensures c.look-y.ensures c.if-y-x.true c.measure-p-then-y-x.ensures c.sum_sizes-then-y-x.ensures c.sizes_of-then-y-x.ensures

pub sizes_of-requires-2 : goal.sizes_of-requires-2
sizes_of-requires-2 t c =
    let q9 = fit_eq (c.requires.good, c.requires.a_bound) c.look-x.ensures c.look-y.ensures c.sum_sizes-p.ensures c.sum_sizes-2.ensures in
    record { entries_le_entries_cap = q9.0; depth_le_store_words = q9.1 }

pub returns : goal.returns
returns t c =
    sizes_eq (c.requires.good, c.requires.a_bound) c.look-x.ensures c.look-y.ensures c.if-x-y.false c.if-y-x.false c.sum_sizes-p.ensures c.sum_sizes-2.ensures c.sizes_of-2.ensures
