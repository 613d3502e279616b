-- `type_to_parts` and `remove` of PartReq, beside the Rust: with its asymmetries, and its panic as an outcome.
use Rattle.std.specs.Prelude.{ℕ, zero, suc, cond, List, [], ◌∷◌, ltb, length, get_or}
use Rattle.std.proofs.Math.Option.{Option, some, none as nothing}
use Rattle.part.specs.PartReq.{PartReq, all, exist, none, more}
use Rattle.module.specs.Module.{TypeHandle, TypeInner, Scalar, Vector, Matrix, Atomic, Pointer, Array, Struct, BindingArray, Opaque, Member}

-- p of each of n, from the index k on
unfoldable pub each : ℕ → ℕ → PartReq → PartReq
each k zero p = none
each k (suc n) p = more k p (each (suc k) n p)

-- the first of the pair that `type_to_parts` gives
unfoldable pub type_to_parts : TypeInner → PartReq
type_to_parts Scalar = all
type_to_parts (Vector size) = each 0 size all
type_to_parts (Matrix columns rows) = each 0 columns (each 0 rows all)
type_to_parts Atomic = all
type_to_parts (Pointer base) = all
type_to_parts (Array base count) = all
type_to_parts (Struct members) = each 0 (length members) all
type_to_parts (BindingArray base) = all
type_to_parts Opaque = all

-- the second of the pair: the members of a struct
unfoldable pub subtypes : TypeInner → Option (List Member)
subtypes Scalar = nothing
subtypes (Vector size) = nothing
subtypes (Matrix columns rows) = nothing
subtypes Atomic = nothing
subtypes (Pointer base) = nothing
subtypes (Array base count) = nothing
subtypes (Struct members) = some members
subtypes (BindingArray base) = nothing
subtypes Opaque = nothing

-- what is left, or the panic at a struct member that is not there
pub data Removed : Type 0 where
  left : PartReq → Removed
  panic : Removed

-- 01's number of each: 0 where something is left
abbrev pub refusal : Removed → ℕ
refusal (left p) = 0
refusal panic = 13

abbrev pub ◌>>=◌ : Removed → (PartReq → Removed) → Removed
◌>>=◌ (left p) k = k p
◌>>=◌ panic k = panic

infixl 20 ◌>>=◌
-- the type of the member i, where there is one
unfoldable pub member_at : List Member → ℕ → Option TypeHandle
member_at [] i = nothing
member_at (m ∷ ms) zero = some m.type
member_at (m ∷ ms) (suc i) = member_at ms i

-- `f` at the type of the subpart i: at no type where no subtypes are known, and the panic where the struct has no such member
unfoldable pub at_member : Option TypeHandle → (Option TypeHandle → Removed) → Removed
at_member nothing f = panic
at_member (some t) f = f (some t)

unfoldable pub at_subtype : Option (List Member) → ℕ → (Option TypeHandle → Removed) → Removed
at_subtype nothing i f = f nothing
at_subtype (some members) i f = at_member (member_at members i) f

-- all is split by its type, where that is known
unfoldable pub split : List TypeInner → Option TypeHandle → PartReq → PartReq
split types nothing p = p
split types (some t) all = type_to_parts (get_or types t Opaque)
split types (some t) exist = exist
split types (some t) none = none
split types (some t) (more i p r) = more i p r

unfoldable pub subtypes_of : List TypeInner → Option TypeHandle → Option (List Member)
subtypes_of types nothing = nothing
subtypes_of types (some t) = subtypes (get_or types t Opaque)

-- the requirement q taken out, where `entries` takes q's entries out of a list of entries
unfoldable pub take_out : List TypeInner → PartReq → (Option (List Member) → PartReq → Removed) → Option TypeHandle → PartReq → Removed
take_out types all entries t p = left exist
take_out types exist entries t p = left p
take_out types none entries t p = entries (subtypes_of types t) (split types t p)
take_out types (more j q s) entries t p = entries (subtypes_of types t) (split types t p)

-- with j the first index to take out, `on_q` what takes its requirement out, and `on_s` what takes the later entries out
unfoldable pub take_entry : ℕ → (Option TypeHandle → PartReq → Removed) → (Option (List Member) → PartReq → Removed) → Option (List Member) → PartReq → Removed
take_entry j on_q on_s ms all = left all
take_entry j on_q on_s ms exist = left exist
take_entry j on_q on_s ms none = left none
take_entry j on_q on_s ms (more i p r) =
    cond (ltb i j) (take_entry j on_q on_s ms r >>= λ rest. left (more i p rest))
    (cond (ltb j i) (on_s ms (more i p r))
    (at_subtype ms i (λ t. on_q t p) >>= λ reduced. on_s ms r >>= λ rest. left (more i reduced rest)))

-- the entries of the first taken out of a list of entries
unfoldable pub take_entries : List TypeInner → PartReq → Option (List Member) → PartReq → Removed
take_entries types all = λ ms p. left p
take_entries types exist = λ ms p. left p
take_entries types none = λ ms p. left p
take_entries types (more j q s) = take_entry j (take_out types q (take_entries types q)) (take_entries types s)

-- `remove`: p without q, where p is of the type t
unfoldable pub remove : List TypeInner → PartReq → PartReq → Option TypeHandle → Removed
remove types p q t = take_out types q (take_entries types q) t p
