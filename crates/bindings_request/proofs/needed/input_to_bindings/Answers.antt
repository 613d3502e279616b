-- `bindings_request::needed::input_to_bindings` meets its contract: what is needed of the arguments so far, or the first assertion.
use Rattle.std.proofs.Common.{None}
use Rattle.std.proofs.lemmas.Result.{err_from_is_err_and}
use Rattle.access.specs.declared.whole.Bound.{Bound}
use Rattle.bindings_request.proofs.Arguments.{args_none, args_more, args_stop, args-all}
use Rattle.bindings_request.proofs.needed.input_to_bindings.Goals as goal

-- what stands past the arguments
abbrev zero-bound : Bound
zero-bound = record { ty = record { 0 = 0 }; binding = None }

pub loop-i-init : goal.loop-i-init
loop-i-init c = args_none _ _ _

pub returns-in_err-a : goal.returns-in_err-a
returns-in_err-a c =
    let p = err_from_is_err_and c.from_residual.result c.from_residual.ensures.1 in
    rw (p.1, p.2) (args_stop _ _ _ c.loop-i.invariant c.loop-i-test.true zero-bound c.in_err-a.ensures)

pub loop-i-preserved : goal.loop-i-preserved
loop-i-preserved c = args_more _ _ _ c.loop-i.invariant c.loop-i-test.true zero-bound c.in_ok-a.ensures

pub returns : goal.returns
returns c = args-all _ _ _ c.loop-i.invariant c.loop-i-test.false
