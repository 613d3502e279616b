-- `bindings_request::needed::all_table` meets its contract: the table grows by one type a turn.
use Rattle.context.specs.Types.{types_of}
use Rattle.bindings_request.proofs.Walking.{Grown}
use Rattle.bindings_request.proofs.needed.all_table.Given as goal

abbrev pub invariant-loop-t : goal.invariant-loop-t
invariant-loop-t l = Grown (types_of l.types.rows.now) l.initial.sets l.sets l.t
