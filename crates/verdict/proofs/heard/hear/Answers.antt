-- `verdict::heard::hear` meets its contract: 12 of either, 11 of either, or what is asked.
use Rattle.std.proofs.lemmas.Result.{err_from_is_err_and}
use mathlib.Core.Path.{sym, ap, ◌∙◌}
use Rattle.context_bytes.specs.Checked.{status}
use Rattle.valid.proofs.Accepted.{valid}
use Rattle.verdict.proofs.Hearing.{hears_first, function-there, hears_refused, hears}
use native.Mathlib.Omega.{arith}
use Rattle.verdict.proofs.heard.hear.Goals as goal

pub load_request-requires : goal.load_request-requires
load_request-requires c =
    (c.requires.1, omega (arith, c.globals.ensures, (valid _ _ c.requires.0.module_is).few_globals))

pub context_status-requires : goal.context_status-requires
context_status-requires c =
    record { read = c.requires.0.module_is; there = function-there _ _ c.requires.0.module_is c.args.request.now c.args.context.now c.functions-n.ensures c.globals.ensures c.load_request.ensures c.in-Ok.is }

pub returns-in_err-context_status : goal.returns-in_err-context_status
returns-in_err-context_status c =
    let p = err_from_is_err_and c.from_residual.result c.from_residual.ensures.1 in
    rw (p.1, p.2)
    (hears_refused _ _ c.requires.0.module_is c.args.request.now c.args.context.now c.functions-n.ensures c.globals.ensures c.load_request.ensures c.in-Ok.is (ap status (sym c.in_err-context_status.was) ∙ c.context_status.ensures))

pub returns-in-Err : goal.returns-in-Err
returns-in-Err c =
    hears_first _ c.args.request.now c.args.context.now c.functions-n.ensures c.globals.ensures c.load_request.ensures c.in-Err.is c.refused_first.ensures

pub returns : goal.returns
returns c =
    hears _ _ c.requires.0.module_is c.args.request.now c.args.context.now c.functions-n.ensures c.globals.ensures c.load_request.ensures c.in-Ok.is (ap status (sym c.in_ok-context_status.was) ∙ c.context_status.ensures) c.value_piece-value.ensures
