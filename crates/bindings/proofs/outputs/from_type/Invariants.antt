-- `bindings::outputs::from_type` meets its contract: the entries of the members from the last to the first.
use Rattle.bindings.proofs.Members.{Making}
use Rattle.bindings.proofs.outputs.from_type.Given as goal

abbrev pub invariant-loop-i : goal.invariant-loop-i
invariant-loop-i l = Making l.initial.cells l.cells l.types.rows.now l.parts l.required l.t.0 l.i l.r
