-- `get_type_bindings` and `from_type_bindings` of PartReq, beside the Rust: recursion over types, each of which names lower ones.
use Rattle.std.specs.Prelude.{ℕ, suc, cond, List, [], ◌∷◌, get_or}
use Rattle.std.proofs.Math.Option.{Option, some, none as nothing}
use Rattle.part.specs.PartReq.{PartReq, all, exist, none, more, Subpart, gone, there, get_subpart}
use Rattle.module.specs.Module.{TypeHandle, Binding, Member, TypeInner, Scalar, Vector, Matrix, Atomic, Pointer, Array, Struct, BindingArray, Opaque}
use Rattle.module.specs.Knot.{knot}
use Rattle.bindings.specs.Bindings.{Bindings, empty, union, contains, own_binding}

-- What is needed of a member: its binding, and what `get` finds in its type. Nothing, where its value is not needed.
unfoldable pub member_bindings : (TypeHandle → PartReq → Bindings) → Member → Subpart → Bindings
member_bindings get m gone = empty
member_bindings get m (there all) = union (own_binding m.binding) (get m.type all)
member_bindings get m (there exist) = empty
member_bindings get m (there none) = union (own_binding m.binding) (get m.type none)
member_bindings get m (there (more j q r)) = union (own_binding m.binding) (get m.type (more j q r))

-- the same of the members from the index i on
unfoldable pub members_bindings : (TypeHandle → PartReq → Bindings) → PartReq → ℕ → List Member → Bindings
members_bindings get p i [] = empty
members_bindings get p i (m ∷ ms) = union (member_bindings get m (get_subpart p i)) (members_bindings get p (suc i) ms)

-- A pointer's, an array's and a binding array's elements are asked for what is asked of the whole.
unfoldable pub inner_bindings : (TypeHandle → PartReq → Bindings) → TypeInner → PartReq → Bindings
inner_bindings get Scalar p = empty
inner_bindings get (Vector size) p = empty
inner_bindings get (Matrix columns rows) p = empty
inner_bindings get Atomic p = empty
inner_bindings get (Pointer base) p = get base p
inner_bindings get (Array base count) p = get base p
inner_bindings get (Struct members) p = members_bindings get p 0 members
inner_bindings get (BindingArray base) p = get base p
inner_bindings get Opaque p = empty

unfoldable pub step_bindings : List TypeInner → (TypeHandle → PartReq → Bindings) → TypeHandle → PartReq → Bindings
step_bindings types get t = inner_bindings get (get_or types t Opaque)

-- `get_type_bindings`
unfoldable pub get_type_bindings : List TypeInner → PartReq → TypeHandle → Bindings
get_type_bindings types p t = knot (step_bindings types) (λ q. empty) t p

-- What is bound is required or not as a whole; what is not goes by its type.
unfoldable pub from_binding : (TypeHandle → Option PartReq) → Bindings → Option Binding → TypeHandle → Option PartReq
from_binding from required nothing t = from t
from_binding from required (some b) t = cond (contains required b) (some all) nothing

-- the entry of the member i, where there is one, before those of later members
unfoldable pub with_entry : ℕ → Option PartReq → PartReq → PartReq
with_entry i nothing r = r
with_entry i (some p) r = more i p r

-- the entries of the members from the index i on
unfoldable pub members_from : (TypeHandle → Option PartReq) → Bindings → ℕ → List Member → PartReq
members_from from required i [] = none
members_from from required i (m ∷ ms) =
    with_entry i (from_binding from required m.binding m.type) (members_from from required (suc i) ms)

-- nothing, where it is the empty part
unfoldable pub unless_empty : PartReq → Option PartReq
unless_empty all = some all
unless_empty exist = some exist
unless_empty none = nothing
unless_empty (more i p r) = some (more i p r)

unfoldable pub inner_from : (TypeHandle → Option PartReq) → Bindings → TypeInner → Option PartReq
inner_from from required Scalar = nothing
inner_from from required (Vector size) = nothing
inner_from from required (Matrix columns rows) = nothing
inner_from from required Atomic = nothing
inner_from from required (Pointer base) = nothing
inner_from from required (Array base count) = nothing
inner_from from required (Struct members) = unless_empty (members_from from required 0 members)
inner_from from required (BindingArray base) = nothing
inner_from from required Opaque = nothing

unfoldable pub step_from : List TypeInner → Bindings → (TypeHandle → Option PartReq) → TypeHandle → Option PartReq
step_from types required from t = inner_from from required (get_or types t Opaque)

-- `from_type_bindings`
unfoldable pub from_type_bindings : List TypeInner → Bindings → TypeHandle → Option PartReq
from_type_bindings types required t = knot (step_from types required) nothing t
