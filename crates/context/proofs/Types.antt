-- What the table of types says, row by row: the type of a row by its kind, its parts and its members, and how many they are at most.
use Prim.Native.Nat.{ℕ, zero, suc, ◌+◌, ◌*◌, ◌<◌, ◌≤◌}
use native.Mathlib.Omega.{arith}
use native.Mathlib.Decide.{dec_lt, ℕ_discrete}
use mathlib.Core.Path.{◌≡◌, refl, sym, subst, ◌∙◌}
use mathlib.Core.List.{List, [], ◌∷◌}
use mathlib.Core.Option.{some, none as nothing}
use lib.ListN.{length, get_or, length-append, get_or-append, get_or-eq_default}
use lib.Seq.{get_or-append_seam}
use borrow.Author.Tests.{lt-ltb, le-ltb}
use Rattle.field.specs.Limits.{max_members}
use Rattle.part.specs.PartReq.{PartReq, all, entries}
use Rattle.module.specs.Module.{TypeInner, Scalar, Vector, Matrix, Atomic, Pointer, Array, Struct, BindingArray, Opaque, Member}
use Rattle.module.specs.Decode.{tab, member_of, type_inner_of}
use Rattle.context.specs.Remove.{each, type_to_parts, subtypes, subtypes_of, member_at}
use Rattle.context.specs.Types.{type_word, type_count, type_kind, row_type, types_of, Sized, AllSized, split_most}
use Rattle.context.specs.Reduced.{subtype_at}
use Rattle.context.proofs.Removal.{Splits}

-- a list made by number
module _ {A : Type 0} (f : ℕ → A) where
  pub length-tab : (n : ℕ) → length (tab n f) ≡ n
  unfolding tab
  length-tab zero = refl
  length-tab (suc n) = length-append (tab n f) (f n ∷ []) ∙ rw (length-tab n) (omega arith)

  pub tab-at : (d : A) (n i : ℕ) → i < n → get_or (tab n f) i d ≡ f i
  unfolding tab
  tab-at d zero i h = absurd (omega arith)
  tab-at d (suc n) i h =
      elim (ℕ_discrete i n) [
        | yes e ↦ rw e (let z = get_or-append_seam (tab n f) (f n) [] d in rw (length-tab n) at z)
        | no e ↦ get_or-append (tab n f) (f n ∷ []) d i (rw (length-tab n) (omega arith)) ∙ tab-at d n i (omega arith)
      ]

  pub tab-past : (d : A) (n i : ℕ) → n ≤ i → get_or (tab n f) i d ≡ d
  tab-past d n i h = get_or-eq_default (tab n f) d (rw (length-tab n) h)

-- a kind that is neither a vector's, a matrix' nor a struct's
not_split : (k : ℕ) (o : ℕ → ℕ) → (k ≡ 1 → ⊥) → (k ≡ 2 → ⊥) → (k ≡ 6 → ⊥) → all ≡ type_to_parts (type_inner_of k o)
unfolding type_inner_of type_to_parts
not_split zero o a b c = refl
not_split (suc zero) o a b c = absurd (a refl)
not_split (suc (suc zero)) o a b c = absurd (b refl)
not_split (suc (suc (suc zero))) o a b c = refl
not_split (suc (suc (suc (suc zero)))) o a b c = refl
not_split (suc (suc (suc (suc (suc zero))))) o a b c = refl
not_split (suc (suc (suc (suc (suc (suc zero)))))) o a b c = absurd (c refl)
not_split (suc (suc (suc (suc (suc (suc (suc zero))))))) o a b c = refl
not_split (suc (suc (suc (suc (suc (suc (suc (suc k)))))))) o a b c = opaque_parts k
  where
    opaque_parts : (n : ℕ) → all ≡ type_to_parts (get_or (Opaque ∷ []) n Opaque)
    opaque_parts zero = refl
    opaque_parts (suc n) = refl

not_struct : (k : ℕ) (o : ℕ → ℕ) → (k ≡ 6 → ⊥) → subtypes (type_inner_of k o) ≡ nothing
unfolding type_inner_of subtypes
not_struct zero o c = refl
not_struct (suc zero) o c = refl
not_struct (suc (suc zero)) o c = refl
not_struct (suc (suc (suc zero))) o c = refl
not_struct (suc (suc (suc (suc zero)))) o c = refl
not_struct (suc (suc (suc (suc (suc zero))))) o c = refl
not_struct (suc (suc (suc (suc (suc (suc zero)))))) o c = absurd (c refl)
not_struct (suc (suc (suc (suc (suc (suc (suc zero))))))) o c = refl
not_struct (suc (suc (suc (suc (suc (suc (suc (suc k)))))))) o c = opaque_subtypes k
  where
    opaque_subtypes : (n : ℕ) → subtypes (get_or (Opaque ∷ []) n Opaque) ≡ nothing
    opaque_subtypes zero = refl
    opaque_subtypes (suc n) = refl

-- a member by its number
member-at : (ms : List Member) (d : Member) (i : ℕ) → i < length ms → member_at ms i ≡ some (get_or ms i d).type
unfolding member_at
member-at [] d i h = absurd (omega arith)
member-at (m ∷ ms) d zero h = refl
member-at (m ∷ ms) d (suc i) h = member-at ms d i (omega arith)

member_past : (ms : List Member) (i : ℕ) → length ms ≤ i → member_at ms i ≡ nothing
unfolding member_at
member_past [] i h = refl
member_past (m ∷ ms) zero h = absurd (omega arith)
member_past (m ∷ ms) (suc i) h = member_past ms i (omega arith)

member-type : (o : ℕ → ℕ) (i : ℕ) → (member_of o i).type ≡ o (1 + 2 * i)
unfolding member_of
member-type o i = refl

-- the type of the row t
module _ (table : List ℕ) (t : ℕ) where
  pub kind_there : t < type_count table → type_kind table t ≡ type_word table t 0
  unfolding type_kind
  kind_there h = rw (lt-ltb t (type_count table) h)

  pub kind_past : type_count table ≤ t → type_kind table t ≡ 8
  unfolding type_kind
  kind_past h = rw (le-ltb t (type_count table) h)

  pub type_is : get_or (types_of table) t Opaque ≡ type_inner_of (type_kind table t) (λ j. type_word table t (1 + j))
  unfolding types_of
  type_is =
      elim (dec_lt t (type_count table)) [
        | yes h ↦ rw (kind_there h) (tab-at (row_type table) Opaque (type_count table) t h)
        | no h ↦ let l : type_count table ≤ t = omega arith in rw (kind_past l) (tab-past (row_type table) Opaque (type_count table) t l ∙ (unfold type_inner_of in refl))
      ]

  -- its parts, by its kind
  abbrev parts : PartReq
  parts = type_to_parts (get_or (types_of table) t Opaque)

  pub vector_parts : {k : ℕ} → k ≡ type_kind table t → k ≡ 1 → each 0 (type_word table t 1) all ≡ parts
  vector_parts e h = rw (type_is, ← e, h) (unfold type_inner_of type_to_parts in refl)

  pub matrix_parts : {k : ℕ} → k ≡ type_kind table t → k ≡ 2 → each 0 (type_word table t 1) (each 0 (type_word table t 2) all) ≡ parts
  matrix_parts e h = rw (type_is, ← e, h) (unfold type_inner_of type_to_parts in refl)

  pub struct_parts : {k : ℕ} → k ≡ type_kind table t → k ≡ 6 → each 0 (type_word table t 1) all ≡ parts
  struct_parts e h = rw (type_is, ← e, h) (unfold type_inner_of type_to_parts in (rw (length-tab (member_of (λ j. type_word table t (1 + j)))) refl))

  -- any other kind is not split
  pub other_parts : {k : ℕ} → k ≡ type_kind table t → (k ≡ 1 → ⊥) → (k ≡ 2 → ⊥) → (k ≡ 6 → ⊥) → all ≡ parts
  other_parts {k} e a b c = rw (type_is, ← e) (not_split k (λ j. type_word table t (1 + j)) a b c)

  -- its sizes, where they are a file's
  module _ (S : AllSized (types_of table)) where
    sized : Sized (type_inner_of (type_kind table t) (λ j. type_word table t (1 + j)))
    sized = subst Sized type_is (S.each t)

    sized_as : {k : ℕ} (n : ℕ) → k ≡ type_kind table t → k ≡ n → Sized (type_inner_of n (λ j. type_word table t (1 + j)))
    sized_as n e h = subst (λ k. Sized (type_inner_of k (λ j. type_word table t (1 + j)))) (sym e ∙ h) sized

    pub vector_size : {k : ℕ} → k ≡ type_kind table t → k ≡ 1 → type_word table t 1 ≤ 4
    unfolding type_inner_of
    vector_size e h = sized_as 1 e h

    pub matrix_size : {k : ℕ} → k ≡ type_kind table t → k ≡ 2 → (type_word table t 1 ≤ 4) × (type_word table t 2 ≤ 4)
    unfolding type_inner_of
    matrix_size e h = sized_as 2 e h

    pub struct_size : {k : ℕ} → k ≡ type_kind table t → k ≡ 6 → type_word table t 1 ≤ max_members
    unfolding type_inner_of
    struct_size e h = rw (length-tab (member_of (λ j. type_word table t (1 + j)))) at (sized_as 6 e h)

  -- the types of its subparts, by its kind
  pub no_members : {k : ℕ} (i : ℕ) → k ≡ type_kind table t → (k ≡ 6 → ⊥) → some nothing ≡ subtype_at (subtypes_of (types_of table) (some t)) i
  no_members {k} i e n = unfold subtypes_of in rw (type_is, ← e) (rw (not_struct k (λ j. type_word table t (1 + j)) n))

  members : {k : ℕ} → k ≡ type_kind table t → k ≡ 6
      → subtypes_of (types_of table) (some t) ≡ some (tab (type_word table t 1) (member_of (λ j. type_word table t (1 + j))))
  members e h = unfold subtypes_of in rw (type_is, ← e, h) (unfold type_inner_of subtypes in refl)

  pub member_gone : {k i : ℕ} → k ≡ type_kind table t → k ≡ 6 → type_word table t 1 ≤ i → nothing ≡ subtype_at (subtypes_of (types_of table) (some t)) i
  member_gone {k} {i} e h l =
      rw (members e h)
      (rw (member_past (tab (type_word table t 1) (member_of (λ j. type_word table t (1 + j)))) i (rw (length-tab (member_of (λ j. type_word table t (1 + j)))) l)))

  pub member_there : {k i : ℕ} → k ≡ type_kind table t → k ≡ 6 → i < type_word table t 1
      → some (some (type_word table t (2 + 2 * i))) ≡ subtype_at (subtypes_of (types_of table) (some t)) i
  member_there {k} {i} e h l =
      let o : ℕ → ℕ = λ j. type_word table t (1 + j) in
      let n = type_word table t 1 in
      let same : 1 + (1 + 2 * i) ≡ 2 + 2 * i = omega arith in
      let m : member_at (tab n (member_of o)) i ≡ some (type_word table t (2 + 2 * i)) =
      member-at (tab n (member_of o)) (member_of o i) i (rw (length-tab (member_of o)) l)
      ∙ rw (tab-at (member_of o) (member_of o i) n i l, member-type o i, same) in
      rw (members e h, m)

-- the entries that a type is split into
each-entries : (k n : ℕ) → entries (each k n all) ≡ n
unfolding each entries
each-entries k zero = refl
each-entries k (suc n) = rw (each-entries (suc k) n) (omega arith)

each-each : (k n m : ℕ) → n ≤ 4 → m ≤ 4 → entries (each k n (each 0 m all)) ≤ n * 5
unfolding each entries
each-each k zero m h l = omega arith
each-each k (suc n) m h l = omega (arith, each-entries 0 m, each-each (suc k) n m (omega arith) l)

split_entries : (t : TypeInner) → Sized t → entries (type_to_parts t) ≤ split_most
unfolding type_to_parts entries
split_entries Scalar h = omega arith
split_entries (Vector size) h = omega (arith, each-entries 0 size)
split_entries (Matrix columns rows) h = omega (arith, each-each 0 columns rows h.0 h.1)
split_entries Atomic h = omega arith
split_entries (Pointer base) h = omega arith
split_entries (Array base count) h = omega arith
split_entries (Struct members) h = omega (arith, each-entries 0 (length members))
split_entries (BindingArray base) h = omega arith
split_entries Opaque h = omega arith

pub sized_splits : {types : List TypeInner} → AllSized types → Splits types split_most
sized_splits {types} S t = split_entries (get_or types t Opaque) (S.each t)
