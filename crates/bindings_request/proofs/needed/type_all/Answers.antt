-- `bindings_request::needed::type_all` meets its contract: two bytes that are zero are the part `all`.
use mathlib.Core.Path.{◌∙◌}
use Rattle.bindings_request.proofs.Walking.{zeros_read, zeros_all}
use Rattle.bindings_request.proofs.needed.type_all.Goals as goal

pub invariant_of-part : goal.invariant_of-part
invariant_of-part c = record { readable = zeros_read }

pub returns : goal.returns
returns c = c.type_step.ensures ∙ rw zeros_all
