-- `bindings::outputs::add_binding` meets its contract: 15 of what is new and of the sum, 16 of the sum, by their sizes; then the sum.
use native.Mathlib.Omega.{arith}
use Rattle.std.proofs.lemmas.Result.{err_from_is_err_and}
use Rattle.bindings.proofs.Returning.{add_refused, add_few, add_within}
use Rattle.bindings.proofs.outputs.add_binding.Goals as goal

pub returns-in_err-within_limits : goal.returns-in_err-within_limits
returns-in_err-within_limits c =
    let p = err_from_is_err_and c.from_residual.result c.from_residual.ensures.1 in
    rw (p.1, p.2) (add_refused _ _ c.own_binding.ensures _ _ _ c.returned_from-new.ensures c.requires.b_lt_bindings.1 c.sum_sizes-m.ensures c.over.ensures c.entries-others.ensures c.within_limits.ensures c.in_err-within_limits.was)

pub join-requires-clause-room : goal.join-requires-clause-room
join-requires-clause-room c =
    omega (arith, add_few _ _ c.own_binding.ensures _ _ _ c.returned_from-new.ensures c.requires.b_lt_bindings.1 c.sum_sizes-m.ensures c.over.ensures c.entries-others.ensures c.within_limits.ensures c.in_ok-within_limits.was, c.requires.bound_result.1, c.returned_from-new.ensures.cost, c.returned_from-new.ensures.kept.long)

pub returns : goal.returns
returns c =
    add_within _ _ c.own_binding.ensures _ _ _ c.returned_from-new.ensures c.requires.b_lt_bindings.1 c.sum_sizes-m.ensures c.over.ensures c.entries-others.ensures c.within_limits.ensures c.in_ok-within_limits.was c.join.ensures
