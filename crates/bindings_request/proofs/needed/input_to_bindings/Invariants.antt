-- `bindings_request::needed::input_to_bindings` meets its contract: what is needed of the arguments so far.
use Rattle.context.specs.Types.{types_of}
use Rattle.context_bytes.specs.Subparts.{variables_of}
use Rattle.bindings_request.proofs.Arguments.{ArgsMet}
use Rattle.bindings_request.proofs.needed.input_to_bindings.Given as goal

abbrev pub invariant-loop-i : goal.invariant-loop-i
invariant-loop-i l = ArgsMet (types_of l.known.types.now.rows.now) (variables_of l.args) l.arguments l.i l.s
