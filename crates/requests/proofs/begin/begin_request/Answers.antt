-- `requests::begin::begin_request` meets its contract: the request's refusal, 19 of the totals, or a memory in which both stand.
use native.Mathlib.Omega.{arith}
use Rattle.request.proofs.Ways.{there, missing, refuses}
use Rattle.requests.proofs.Basing.{passed}
use Rattle.requests.proofs.Beginning.{few_globals, begins_refused, begins_19, clear_asks, tidy_asks, weighs, begins}
use Rattle.requests.proofs.begin.begin_request.Goals as goal

pub returns-in_err-ok_or : goal.returns-in_err-ok_or
returns-in_err-ok_or c =
    rw (refuses _ c.from_residual-in_err-ok_or.ensures.1 c.ok_or.ensures.value c.in_err-ok_or.was)
    (begins_19 c.requires c.args.report c.args.request.now c.args.pruner.now c.functions.ensures c.globals.ensures c.load_request.ensures c.in_ok-function.was c.read_pruner.ensures (missing c.ok_or.ensures.ok_part c.in_err-ok_or.was))

pub clear_marks-requires : goal.clear_marks-requires
clear_marks-requires c =
    clear_asks c.requires c.args.report c.args.request.now c.args.pruner.now c.functions.ensures c.globals.ensures c.load_request.ensures c.in_ok-function.was c.read_pruner.ensures (there c.ok_or.ensures.ok_part c.in_ok-ok_or.was)

pub weigh_totals-sum-requires : goal.weigh_totals-sum-requires
weigh_totals-sum-requires c =
    weighs c.requires c.args.report c.args.request.now c.args.pruner.now c.functions.ensures c.globals.ensures c.load_request.ensures c.in_ok-function.was c.read_pruner.ensures (there c.ok_or.ensures.ok_part c.in_ok-ok_or.was) c.tidy.ensures c.load_request.auto.slots

pub returns-in_err-function : goal.returns-in_err-function
returns-in_err-function c =
    rw (passed c.from_residual.ensures.1) (begins_refused c.requires c.args.report c.args.request.now c.args.pruner.now c.functions.ensures c.globals.ensures c.load_request.ensures c.in_err-function.was)

pub returns : goal.returns
returns c =
    begins c.requires c.args.report c.args.request.now c.args.pruner.now c.functions.ensures c.globals.ensures c.load_request.ensures c.in_ok-function.was c.read_pruner.ensures (there c.ok_or.ensures.ok_part c.in_ok-ok_or.was) c.tidy.ensures c.load_request.auto.slots c.clear_marks.ensures c.weigh_totals-sum.ensures

pub load_request-requires-clause-slot_count_in_bounds : goal.load_request-requires-clause-slot_count_in_bounds
load_request-requires-clause-slot_count_in_bounds c = (c.requires.slots_long, omega (arith, few_globals c.requires, c.globals.ensures))

pub tidy-requires-clause-slots_bound : goal.tidy-requires-clause-slots_bound
tidy-requires-clause-slots_bound c =
    (tidy_asks c.requires c.args.report c.args.request.now c.args.pruner.now c.functions.ensures c.globals.ensures c.load_request.ensures c.in_ok-function.was c.read_pruner.ensures (there c.ok_or.ensures.ok_part c.in_ok-ok_or.was) c.load_request.auto.slots).1
