-- `requests::finish::finish_request` meets its contract: 16 of the totals, then the three buffers.
use mathlib.Core.Path.{refl}
use Rattle.state.proofs.Ends.{passed}
use Rattle.requests.proofs.Finishing.{finish_own, finish_sub, finish_report, finish_pruner, finish_answer, finish_over, finish_went}
use Rattle.requests.proofs.finish.finish_request.Goals as goal

pub returns-in_err-check_totals : goal.returns-in_err-check_totals
returns-in_err-check_totals c = rw (passed c.from_residual.ensures.1, c.in_err-check_totals.ensures.0) (finish_over c.requires refl c.in_err-check_totals.ensures.1)

pub write_report-requires : goal.write_report-requires
write_report-requires c = finish_report c.requires c.functions-n.ensures

pub returns : goal.returns
returns c =
    finish_went c.requires refl c.in_ok-check_totals.ensures c.functions-n.ensures c.write_report.ensures c.write_pruner.ensures c.write_answer.ensures

pub check_totals-requires : goal.check_totals-requires
check_totals-requires c =
    let q9 = finish_own c.requires in
    record { memory = q9.0; own_bound = (q9.1, finish_sub c.requires) }

pub write_pruner-requires : goal.write_pruner-requires
write_pruner-requires c =
    let q9 = finish_pruner c.requires refl c.in_ok-check_totals.ensures in
    record { has_totals = q9.0; min_pruner_in_bounds = q9.1 }

pub write_answer-requires : goal.write_answer-requires
write_answer-requires c =
    let q9 = finish_answer c.requires in
    record { answering = q9.0; visits_bound = q9.1.0; visits_len_bound = q9.1.1 }
