-- The same once per type, lowest first: a table has what lower types came to.
use Rattle.std.specs.Prelude.{ℕ, zero, suc, List, [], ◌∷◌, ◌++◌, length, get_or}
use Rattle.std.proofs.Math.Option.{Option, none as nothing}
use Rattle.part.specs.PartReq.{PartReq, all, exist, none, more}
use Rattle.module.specs.Module.{TypeHandle, TypeInner, Opaque}
use Rattle.module.specs.Knot.{knot}
use Rattle.bindings.specs.Bindings.{Bindings, empty}
use Rattle.bindings.specs.TypeBindings.{inner_bindings, step_bindings, step_from}

-- what `step` gives at each number below n, by those before it; d at others
unfoldable pub table : {A : Type 0} → ((ℕ → A) → ℕ → A) → A → ℕ → List A
table step d zero = []
table step d (suc n) = let lower = table step d n in lower ++ (step (λ u. get_or lower u d) n ∷ [])

-- the bindings below a type all of which is needed, where `lower` has those of lower types
unfoldable pub step_all : List TypeInner → (TypeHandle → Bindings) → TypeHandle → Bindings
step_all types lower t = inner_bindings (λ u p. lower u) (get_or types t Opaque) all

-- the bindings below each type, where all is needed
unfoldable pub all_table : List TypeInner → List Bindings
all_table types = table (step_all types) empty (length types)

-- A walk of the part's own entries, by the table where all is needed.
unfoldable pub step_walk : List TypeInner → List Bindings → (TypeHandle → PartReq → Bindings) → TypeHandle → PartReq → Bindings
step_walk types below walk t all = get_or below t empty
step_walk types below walk t exist = step_bindings types walk t exist
step_walk types below walk t none = step_bindings types walk t none
step_walk types below walk t (more i p r) = step_bindings types walk t (more i p r)

unfoldable pub walk_bindings : List TypeInner → List Bindings → PartReq → TypeHandle → Bindings
walk_bindings types below p t = knot (step_walk types below) (λ q. empty) t p

-- the part of each type that is required
unfoldable pub from_table : List TypeInner → Bindings → List (Option PartReq)
from_table types required = table (step_from types required) nothing (length types)
