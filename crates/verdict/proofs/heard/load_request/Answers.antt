-- `verdict::heard::load_request` meets its contract: a fresh store has room for a request, and one that is too long is none.
use Rattle.std.proofs.lemmas.Result.{err_from_is_err_and}
use Rattle.verdict.proofs.Hearing.{loaded_long}
use Rattle.verdict.proofs.heard.load_request.Goals as goal

pub returns-in_err-check_length : goal.returns-in_err-check_length
returns-in_err-check_length c =
    let p = err_from_is_err_and c.from_residual.result c.from_residual.ensures.1 in
    rw (p.1, p.2) (loaded_long c.args.functions c.args.globals c.args.request.now c.init.ensures.0 c.in_err-check_length.ensures)
