-- What the pieces of types stand for, as the code makes them: the empty part is nothing.
use Rattle.std.specs.Prelude.{ℕ, ◌+◌, ◌<◌, ◌≤◌, ◌≡◌, List, length, get_or, Option as Maybe, Some, None}
use Rattle.std.proofs.Math.Option.{Option, some, none as nothing}
use Rattle.part.specs.PartReq.{PartReq}
use Rattle.part.specs.Store.{top, part, Kept}
use Rattle.module.specs.Module.{TypeHandle, Binding, TypeInner}
use Rattle.module.specs.Knot.{below}
use Rattle.bindings.specs.Bindings.{Bindings}
use Rattle.bindings.specs.TypeBindings.{unless_empty, from_binding, from_type_bindings}

-- the part of a type, by its piece in the store s
abbrev pub part_of : (s parts : List ℕ) → TypeHandle → Option PartReq
part_of s parts u = unless_empty (part s (get_or parts u 0))

-- the same of the types below t
abbrev pub lower_part : (s parts : List ℕ) (t : TypeHandle) → TypeHandle → Option PartReq
lower_part s parts t = below (part_of s parts) nothing t

-- the pieces of the types below t are there
pub record Held (s parts : List ℕ) (t : ℕ) : Type 0 where
  pub low : t ≤ length parts
  pub each : (u : ℕ) → u < t → get_or parts u 0 < top s

-- the part of a piece in the store s, where there is one
abbrev pub optional : List ℕ → Maybe ℕ → Option PartReq
optional s None = nothing
optional s (Some r) = some (part s r)

-- it is a piece of the store s, where there is one
abbrev pub OptionHeld : List ℕ → Maybe ℕ → Type 0
OptionHeld s None = Unit {0}
OptionHeld s (Some r) = r < top s

-- r is the piece of what has the binding, or else the type u
pub record Chosen (parts : List ℕ) (required : Bindings) (t : ℕ) (binding : Option Binding) (u : ℕ) (r : Maybe ℕ) : Type 0 where
  pub is : (s : List ℕ) → optional s r ≡ from_binding (lower_part s parts t) required binding u
  pub piece : (s : List ℕ) → 3 ≤ top s → Held s parts t → OptionHeld s r

-- from s, t was left: the piece r means o there, and at most k cells more are used
pub record From (s t : List ℕ) (o : Option PartReq) (k r : ℕ) : Type 0 where
  pub kept : Kept s t
  pub piece : r < top t
  pub is : unless_empty (part t r) ≡ o
  pub cost : top t ≤ top s + k

-- from s, t was left, with the piece of each type
pub record Parts (s t : List ℕ) (types : List TypeInner) (required : Bindings) (parts : List ℕ) (k : ℕ) : Type 0 where
  pub kept : Kept s t
  pub held : Held t parts (length parts)
  pub is : (u : ℕ) → u < length parts → part_of t parts u ≡ from_type_bindings types required u
  pub cost : top t ≤ top s + k
