-- `bindings_request::answer::write_asking` meets its contract: a refusal leaves the slice, and a request within 16 fits it.
use Rattle.std.proofs.lemmas.Result.{err_from_is_err_and}
use Rattle.part.specs.Store.{part}
use Rattle.bindings_request.proofs.Answers.{asking_refused, asking_fits, asking_written}
use Rattle.bindings_request.proofs.answer.write_asking.Goals as goal

pub returns-in_err-p : goal.returns-in_err-p
returns-in_err-p c =
    let p = err_from_is_err_and c.from_residual.result c.from_residual.ensures.1 in
    rw (p.1, p.2) (asking_refused c.args.cells.now c.args.f.0 (part c.args.cells.now c.args.globals) c.in_err-p.was)

pub write_request-requires-clause-globals_in_bounds : goal.write_request-requires-clause-globals_in_bounds
write_request-requires-clause-globals_in_bounds c =
    (asking_fits c.args.cells.now c.args.f.0 c.args.globals c.in_ok-p.was c.requires.good c.requires.globals_bound.0 c.requires.globals_bound.1 c.requires.min_report_in_bounds).1.1

pub returns : goal.returns
returns c =
    asking_written c.args.cells.now c.args.f.0 c.args.globals c.in_ok-p.was c.write_request.ensures
