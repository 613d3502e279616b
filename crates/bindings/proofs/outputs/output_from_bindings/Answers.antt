-- `bindings::outputs::output_from_bindings` meets its contract: 15 and 16 by the sizes of the piece.
use Rattle.std.proofs.lemmas.Result.{err_from_is_err_and}
use Rattle.bindings.proofs.Returning.{output_refused, output_within}
use Rattle.bindings.proofs.outputs.output_from_bindings.Goals as goal

pub returns-in_err-within_limits : goal.returns-in_err-within_limits
returns-in_err-within_limits c =
    let p = err_from_is_err_and c.from_residual.result c.from_residual.ensures.1 in
    rw (p.1, p.2) (output_refused _ _ _ c.returned_from-new.ensures c.measure-m.ensures c.within_limits.ensures c.in_err-within_limits.was)

pub returns : goal.returns
returns c =
    output_within _ _ _ c.returned_from-new.ensures c.measure-m.ensures c.within_limits.ensures c.in_ok-within_limits.was
