-- What the rows and the table of alike types say of an element's, a part's and a pointee's shape, in every scope with these types.
use Prim.Native.Nat.{ℕ, zero, suc, ◌+◌, ◌<◌, ◌≤◌}
use native.Mathlib.Omega.{arith}
use mathlib.Core.Path.{◌≡◌, refl, sym, ap, subst, ◌∙◌}
use mathlib.Core.Bool.{Bool, true, false, and-true}
use mathlib.Core.List.{List, [], ◌∷◌, map}
use mathlib.Core.Option.{some, none as nothing}
use lib.Dec.{eqb}
use lib.ListN.{length, get_or}
use borrow.Author.Tests.{lt-ltb, le-ltb}
use Rattle.module.specs.Module.{Member, TypeInner, Scalar, Vector, Matrix, Atomic, Pointer, Array, Struct, BindingArray, Opaque}
use Rattle.module.specs.Decode.{member_of, type_inner_of}
use Rattle.module.proofs.Tab.{length-tab}
use Rattle.context.specs.Types.{type_word, types_of}
use Rattle.bindings.specs.Rows.{is_base}
use Rattle.clearance.specs.Scope.{Scope, inner, member_types, kind, bases, is_kind, is_scalar, pairwise, alike_inner, alike}
use Rattle.clearance.specs.Judged.{part_type, element_type, pointee_type, same, same_part}
use Rattle.judge.specs.Alike.{alike_in, by_table, Lower}
use Rattle.judge.specs.Shapes.{Shapes, Pointee, part_count}
use Rattle.judge.proofs.Equivalence.{alike_is}
use Rattle.judge.proofs.TypeRows.{number, row_is, count_one, base_first}

-- a scalar or a vector by its kind
same-scalar : (S : Scope) (y : TypeInner) → is_scalar y ≡ same S Scalar y
unfolding same alike_inner pairwise kind bases is_kind
same-scalar S Scalar = refl
same-scalar S (Vector n) = refl
same-scalar S (Matrix columns rows) = refl
same-scalar S Atomic = refl
same-scalar S (Pointer base) = refl
same-scalar S (Array base n) = refl
same-scalar S (Struct ms) = refl
same-scalar S (BindingArray base) = refl
same-scalar S Opaque = refl

no_vector : (S : Scope) (n : ℕ) (y : TypeInner) → (number y ≡ 1 → ⊥) → false ≡ same S (Vector n) y
unfolding same alike_inner pairwise kind bases
no_vector S n Scalar h = refl
no_vector S n (Vector m) h = absurd (h refl)
no_vector S n (Matrix columns rows) h = refl
no_vector S n Atomic h = refl
no_vector S n (Pointer base) h = refl
no_vector S n (Array base m) h = refl
no_vector S n (Struct ms) h = refl
no_vector S n (BindingArray base) h = refl
no_vector S n Opaque h = refl

a-vector : (S : Scope) (n m : ℕ) → eqb n m ≡ same S (Vector n) (Vector m)
unfolding same alike_inner pairwise kind bases
a-vector S n m = sym (and-true _ ∙ and-true (eqb n m))

-- elements and parts by the kind
no_element : (S : Scope) (x y : TypeInner) → (number x ≡ 1 → ⊥) → (number x ≡ 2 → ⊥) → (number x ≡ 5 → ⊥) → false ≡ same_part S (element_type S x) y
unfolding kind element_type same_part
no_element S Scalar y a b c = refl
no_element S (Vector n) y a b c = absurd (a refl)
no_element S (Matrix columns rows) y a b c = absurd (b refl)
no_element S Atomic y a b c = refl
no_element S (Pointer base) y a b c = refl
no_element S (Array base n) y a b c = absurd (c refl)
no_element S (Struct ms) y a b c = refl
no_element S (BindingArray base) y a b c = refl
no_element S Opaque y a b c = refl

part_past : (S : Scope) (x : TypeInner) (i : ℕ) → part_count x ≤ i → part_type S x i ≡ nothing
unfolding part_count part_type
part_past S Scalar i h = refl
part_past S (Vector n) i h = rw (le-ltb i n h)
part_past S (Matrix columns rows) i h = rw (le-ltb i columns h)
part_past S Atomic i h = refl
part_past S (Pointer base) i h = refl
part_past S (Array base n) i h = rw (le-ltb i n h)
part_past S (Struct ms) i h = rw (le-ltb i (length ms) h)
part_past S (BindingArray base) i h = refl
part_past S Opaque i h = refl

part_element : (S : Scope) (x : TypeInner) (i : ℕ) → i < part_count x → (number x ≡ 6 → ⊥) → part_type S x i ≡ element_type S x
unfolding part_count part_type element_type kind
part_element S Scalar i h n = refl
part_element S (Vector m) i h n = rw (lt-ltb i m h)
part_element S (Matrix columns rows) i h n = rw (lt-ltb i columns h)
part_element S Atomic i h n = refl
part_element S (Pointer base) i h n = refl
part_element S (Array base m) i h n = rw (lt-ltb i m h)
part_element S (Struct ms) i h n = absurd (n refl)
part_element S (BindingArray base) i h n = refl
part_element S Opaque i h n = refl

pub member_base : (ms : List Member) (i : ℕ) → member_types ms i ≡ get_or (map (λ m. m.type) ms) i 0
unfolding member_types
member_base [] i = refl
member_base (m ∷ ms) zero = refl
member_base (m ∷ ms) (suc i) = member_base ms i

pub length_types : (ms : List Member) → length (map (λ m. m.type) ms) ≡ length ms
length_types [] = refl
length_types (m ∷ ms) = ap suc (length_types ms)

members_counted : (x : TypeInner) (i : ℕ) → number x ≡ 6 → i < part_count x → i < length (bases x)
unfolding part_count kind bases
members_counted Scalar i h l = absurd (omega arith)
members_counted (Vector m) i h l = absurd (omega arith)
members_counted (Matrix columns rows) i h l = absurd (omega arith)
members_counted Atomic i h l = absurd (omega arith)
members_counted (Pointer base) i h l = absurd (omega arith)
members_counted (Array base m) i h l = absurd (omega arith)
members_counted (Struct ms) i h l = omega (arith, length_types ms)
members_counted (BindingArray base) i h l = absurd (omega arith)
members_counted Opaque i h l = absurd (omega arith)

part_member : (S : Scope) (x : TypeInner) (i : ℕ) → number x ≡ 6 → i < part_count x → part_type S x i ≡ some (inner S (get_or (bases x) i 0))
unfolding part_count part_type kind bases
part_member S Scalar i h l = absurd (omega arith)
part_member S (Vector m) i h l = absurd (omega arith)
part_member S (Matrix columns rows) i h l = absurd (omega arith)
part_member S Atomic i h l = absurd (omega arith)
part_member S (Pointer base) i h l = absurd (omega arith)
part_member S (Array base m) i h l = absurd (omega arith)
part_member S (Struct ms) i h l = rw (lt-ltb i (length ms) l, member_base ms i)
part_member S (BindingArray base) i h l = absurd (omega arith)
part_member S Opaque i h l = absurd (omega arith)

-- a pointer's base, and any other type itself
not_pointer : (S : Scope) (x : TypeInner) → (number x ≡ 4 → ⊥) → x ≡ pointee_type S x
unfolding pointee_type kind
not_pointer S Scalar h = refl
not_pointer S (Vector n) h = refl
not_pointer S (Matrix columns rows) h = refl
not_pointer S Atomic h = refl
not_pointer S (Pointer base) h = absurd (h refl)
not_pointer S (Array base n) h = refl
not_pointer S (Struct ms) h = refl
not_pointer S (BindingArray base) h = refl
not_pointer S Opaque h = refl

no_parts : (x : TypeInner) → (number x ≡ 5 → ⊥) → (number x ≡ 1 → ⊥) → (number x ≡ 2 → ⊥) → (number x ≡ 6 → ⊥) → 0 ≡ part_count x
unfolding kind part_count
no_parts Scalar a b c d = refl
no_parts (Vector n) a b c d = absurd (b refl)
no_parts (Matrix columns rows) a b c d = absurd (c refl)
no_parts Atomic a b c d = refl
no_parts (Pointer base) a b c d = refl
no_parts (Array base n) a b c d = absurd (a refl)
no_parts (Struct ms) a b c d = absurd (d refl)
no_parts (BindingArray base) a b c d = refl
no_parts Opaque a b c d = refl

-- two types are alike where their insides are the same
pub alike_same : (S : Scope) → Lower S.program.types → (a b : ℕ) → alike S a b ≡ same S (inner S a) (inner S b)
unfolding alike alike_in inner same
alike_same S L a b = alike_is S.program.types L a b

-- the count of parts by the row
module _ (types : List ℕ) (a : ℕ) {k : ℕ} (e : k ≡ number (get_or (types_of types) a Opaque)) where
  base_low : Lower (types_of types) → is_base k ≡ true → (k ≡ 6 → ⊥) → type_word types a 1 < a
  base_low L h n =
      let one = count_one types a e h in
      omega (arith, L.each a 0 (omega arith), base_first types a 0 e n (omega arith) refl)

  pub count_array : {r : ℕ} → k ≡ 5 → r ≡ type_word types a 2 → r ≡ part_count (get_or (types_of types) a Opaque)
  count_array h w = w ∙ sym (rw (row_is types a 5 (omega arith) e h) (unfold type_inner_of part_count in refl))

  pub count_vector : {r : ℕ} → k ≡ 1 → r ≡ type_word types a 1 → r ≡ part_count (get_or (types_of types) a Opaque)
  count_vector h w = w ∙ sym (rw (row_is types a 1 (omega arith) e h) (unfold type_inner_of part_count in refl))

  pub count_matrix : {r : ℕ} → k ≡ 2 → r ≡ type_word types a 1 → r ≡ part_count (get_or (types_of types) a Opaque)
  count_matrix h w = w ∙ sym (rw (row_is types a 2 (omega arith) e h) (unfold type_inner_of part_count in refl))

  pub count_struct : {r : ℕ} → k ≡ 6 → r ≡ type_word types a 1 → r ≡ part_count (get_or (types_of types) a Opaque)
  count_struct h w =
      w ∙ sym (rw (row_is types a 6 (omega arith) e h) (unfold type_inner_of part_count in length-tab (type_word types a 1) (member_of (λ j. type_word types a (1 + j)))))

  pub count_none : (k ≡ 5 → ⊥) → (k ≡ 1 → ⊥) → (k ≡ 2 → ⊥) → (k ≡ 6 → ⊥) → 0 ≡ part_count (get_or (types_of types) a Opaque)
  count_none p q r s = no_parts (get_or (types_of types) a Opaque) (λ z. p (e ∙ z)) (λ z. q (e ∙ z)) (λ z. r (e ∙ z)) (λ z. s (e ∙ z))

  pub member_there : {c i : ℕ} → k ≡ 6 → c ≡ part_count (get_or (types_of types) a Opaque) → i < c → i < length (bases (get_or (types_of types) a Opaque))
  member_there {c} {i} h n l = members_counted (get_or (types_of types) a Opaque) i (sym e ∙ h) (omega arith)

module _ (types : List ℕ) (S : Scope) (p : S.program.types ≡ types_of types) where
  pub inner_is : (a : ℕ) → inner S a ≡ get_or (types_of types) a Opaque
  unfolding inner
  inner_is a = rw p

  pub lower_in : Lower (types_of types) → Lower S.program.types
  lower_in L = subst Lower (sym p) L

  -- two types by the table
  pub same-table : {alike : List ℕ} {r : Bool} (a b : ℕ) → Shapes types alike → a < length (types_of types) → b < length (types_of types) → r ≡ by_table alike a b → r ≡ same S (inner S a) (inner S b)
  same-table a b H l m e = e ∙ (H.table.is S p a b l m ∙ alike_same S (lower_in H.lower) a b)

  -- the type a by its kind
  module _ (a : ℕ) {k : ℕ} (e : k ≡ number (get_or (types_of types) a Opaque)) where
    pub number_is : k ≡ number (inner S a)
    number_is = e ∙ ap number (sym (inner_is a))

    pub other : {n : ℕ} → (k ≡ n → ⊥) → number (inner S a) ≡ n → ⊥
    other h q = h (number_is ∙ q)

    pub vector_is : k ≡ 1 → inner S a ≡ Vector (type_word types a 1)
    unfolding type_inner_of
    vector_is h = inner_is a ∙ row_is types a 1 (omega arith) e h

    matrix_is : k ≡ 2 → inner S a ≡ Matrix (type_word types a 1) (type_word types a 2)
    unfolding type_inner_of
    matrix_is h = inner_is a ∙ row_is types a 2 (omega arith) e h

    pointer_is : k ≡ 4 → inner S a ≡ Pointer (type_word types a 1)
    unfolding type_inner_of
    pointer_is h = inner_is a ∙ row_is types a 4 (omega arith) e h

    array_is : k ≡ 5 → inner S a ≡ Array (type_word types a 1) (type_word types a 2)
    unfolding type_inner_of
    array_is h = inner_is a ∙ row_is types a 5 (omega arith) e h

    pub vector_other : (n : ℕ) → (k ≡ 1 → ⊥) → false ≡ same S (Vector n) (inner S a)
    vector_other n h = no_vector S n (inner S a) (other h)

    pub vector_size : (n : ℕ) {w : ℕ} → k ≡ 1 → w ≡ type_word types a 1 → eqb n w ≡ same S (Vector n) (inner S a)
    vector_size n h w = rw (vector_is h, w) (a-vector S n (type_word types a 1))

    module _ (b : ℕ) where
      abbrev element : Bool
      element = same_part S (element_type S (inner S a)) (inner S b)

      pub element-scalar : {l : ℕ} → l ≡ number (get_or (types_of types) b Opaque) → k ≡ 1 → eqb l 0 ≡ element
      element-scalar {l} f h =
          rw (vector_is h) (unfold element_type same_part in (rw (f ∙ ap number (sym (inner_is b))) (unfold is_kind in same-scalar S (inner S b))))

      pub element-vector : {n : ℕ} {r : Bool} → k ≡ 2 → n ≡ type_word types a 2 → r ≡ same S (Vector n) (inner S b) → r ≡ element
      element-vector h w q = rw (matrix_is h) (unfold element_type same_part in (rw (← w) q))

      pub element-array : {alike : List ℕ} {x : ℕ} {r : Bool} → Shapes types alike → a < length (types_of types) → b < length (types_of types) → k ≡ 5 → x ≡ type_word types a 1 → r ≡ by_table alike x b → r ≡ element
      element-array {x = x} H l m h w q =
          let low = base_low types a e H.lower (unfold is_base in rw h) (λ z. omega arith) in
          rw (array_is h) (unfold element_type same_part in (rw (← w) (same-table x b H (omega arith) m q)))

      pub element-none : (k ≡ 1 → ⊥) → (k ≡ 2 → ⊥) → (k ≡ 5 → ⊥) → false ≡ element
      element-none f g h = no_element S (inner S a) (inner S b) (other f) (other g) (other h)

    -- a part that is there
    module _ (b i : ℕ) {c : ℕ} (n : c ≡ part_count (get_or (types_of types) a Opaque)) (g : i < c) where
      abbrev part : Bool
      part = same_part S (part_type S (inner S a) i) (inner S b)

      pub part_struct : {alike : List ℕ} {x : ℕ} {r : Bool} → Shapes types alike → a < length (types_of types) → b < length (types_of types) → k ≡ 6 → x ≡ get_or (bases (get_or (types_of types) a Opaque)) i 0 → r ≡ by_table alike x b → r ≡ part
      part_struct {x = x} H l m h w q =
          rw (inner_is a, part_member S (get_or (types_of types) a Opaque) i (sym e ∙ h) (omega arith), ← w)
          (unfold same_part in same-table x b H (omega (arith, H.lower.each a i (member_there types a e h n g))) m q)

      pub part-other : {r : Bool} → (k ≡ 6 → ⊥) → r ≡ same_part S (element_type S (inner S a)) (inner S b) → r ≡ part
      part-other h q = rw (part_element S (inner S a) i (omega (arith, n ∙ ap part_count (sym (inner_is a)))) (other h)) q

  pub part_none : (a b i : ℕ) {c : ℕ} → c ≡ part_count (get_or (types_of types) a Opaque) → c ≤ i → false ≡ same_part S (part_type S (inner S a) i) (inner S b)
  part_none a b i {c} n h = rw (part_past S (inner S a) i (omega (arith, n, ap part_count (inner_is a)))) (unfold same_part in refl)

-- what a pointer leads to
module _ (types : List ℕ) (a : ℕ) {k : ℕ} (e : k ≡ number (get_or (types_of types) a Opaque)) where
  pub pointee_base : {r : ℕ} → Lower (types_of types) → k ≡ 4 → r ≡ type_word types a 1 → Pointee types a r
  pointee_base {r} L h w =
      let low = base_low types a e L (unfold is_base in rw h) (λ z. omega arith) in
      record { low = omega arith; is = λ S p. rw (pointer_is types S p a e h, w) (unfold pointee_type in refl) }

  pub pointee_self : (k ≡ 4 → ⊥) → Pointee types a a
  pointee_self h = record { low = omega arith; is = λ S p. not_pointer S (inner S a) (other types S p a e h) }
