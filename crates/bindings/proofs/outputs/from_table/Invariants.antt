-- `bindings::outputs::from_table` meets its contract: one type more a turn.
use Rattle.context.specs.Types.{types_of}
use Rattle.bindings.proofs.Members.{Filling}
use Rattle.bindings.proofs.outputs.from_table.Given as goal

abbrev pub invariant-loop-t : goal.invariant-loop-t
invariant-loop-t l = Filling l.initial.cells l.cells (types_of l.types.rows.now) l.required l.initial.parts l.parts l.t
