-- What the code's walk finds, and what it answers of a function's inputs.
use Rattle.std.specs.Prelude.{ℕ, List, Some, Result, Ok, Err}
use Rattle.field.specs.declared.refusal.Refusal.TheVariants.{Panic}
use Rattle.part.specs.PartReq.{PartReq}
use Rattle.module.specs.Module.{TypeHandle, TypeInner}
use Rattle.module.specs.Knot.{below}
use Rattle.bindings.specs.Bindings.{Bindings, empty}
use Rattle.bindings.specs.Linear.{walk_bindings}
use Rattle.bindings.specs.ContextBindings.{Needed as Answered, needed, asserts}
use Rattle.bindings_request.specs.declared.answer.Refused.{Refused}
use Rattle.bindings_request.specs.declared.needed.Asserts.{Asserts}

-- in a type that the type t names: nothing, where it is not a lower one
unfoldable pub lower : List TypeInner → List Bindings → (t : TypeHandle) → TypeHandle → PartReq → Bindings
lower types sets t = below (λ u p. walk_bindings types sets p u) (λ p. empty) t

abbrev pub needed_of : Result ℕ Asserts → Answered
needed_of (Ok s) = needed s
needed_of (Err a) = asserts a.0

-- 13 at the argument of an assertion
abbrev pub asserted : Asserts → Refused
asserted a = record { by = Panic; argument = Some a.0 }
