-- `walk`, `member_bindings` and `type_step` meet their contracts: a type names lower ones, and the measure falls with them.
use Prim.Native.Nat.{◌+◌, ◌*◌}
use Rattle.context.specs.Types.{types_of}
use Rattle.context_bytes.specs.Subparts.{part_of}
use Rattle.bindings_request.specs.Walks.{lower}
use Rattle.bindings_request.proofs.Walking.{Left}
use Rattle.bindings_request.proofs.needed.+member_bindings_type_step_walk.Given as goal

abbrev pub invariant-type_step-loop-i : goal.invariant-type_step-loop-i
invariant-type_step-loop-i l = Left (lower (types_of l.known.types.now.rows.now) l.known.sets.now l.t.0) l.known.types.now.rows.now l.t.0 (part_of l.part) l.i l.r

abbrev pub decreases-member_bindings : goal.decreases-member_bindings
decreases-member_bindings l = 3 * l.t.0 + 1

abbrev pub decreases-type_step : goal.decreases-type_step
decreases-type_step l = 3 * l.t.0 + 2

abbrev pub decreases-walk : goal.decreases-walk
decreases-walk l = 3 * l.t.0
