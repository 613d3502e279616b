-- `requests::begin::weigh_totals` meets its contract.
use Rattle.requests.proofs.Beginning.{weigh_globals, weigh_functions, weighed}
use native.Mathlib.Omega.{arith}
use Rattle.requests.proofs.begin.weigh_totals.Goals as goal

pub overflow_add-result : goal.overflow_add-result
overflow_add-result c = omega (arith, weighed c.requires c.weigh.ensures c.weigh-2.ensures, c.requires.few)

pub returns : goal.returns
returns c = weighed c.requires c.weigh.ensures c.weigh-2.ensures

pub weigh-requires-clause-n_in_bounds : goal.weigh-requires-clause-n_in_bounds
weigh-requires-clause-n_in_bounds c = (weigh_globals c.requires).1

pub weigh-requires-2-clause-n_in_bounds : goal.weigh-requires-2-clause-n_in_bounds
weigh-requires-2-clause-n_in_bounds c = (weigh_functions c.requires).1
