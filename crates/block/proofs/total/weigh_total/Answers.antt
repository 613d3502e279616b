-- `block::total::weigh_total` meets its contract.
use Rattle.block.proofs.Weighs.{records_weighed, context_weighed, total_weighed}
use native.Mathlib.Omega.{arith}
use Rattle.block.proofs.total.weigh_total.Goals as goal

pub weigh-records-requires : goal.weigh-records-requires
weigh-records-requires c =
    let q9 = records_weighed c.requires c.records_of-r.ensures in
    record { memory = q9.0; n_in_bounds = q9.1 }

pub weigh-context-requires : goal.weigh-context-requires
weigh-context-requires c =
    let q9 = context_weighed c.requires c.records_of-r.ensures in
    record { memory = q9.0; n_in_bounds = q9.1 }

pub overflow_add-result : goal.overflow_add-result
overflow_add-result c =
    omega (arith, total_weighed c.requires c.records_of-r.ensures c.weigh-records.ensures c.weigh-context.ensures, c.requires.few)

pub returns : goal.returns
returns c =
    total_weighed c.requires c.records_of-r.ensures c.weigh-records.ensures c.weigh-context.ensures
