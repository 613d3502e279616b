-- What a row of the table of types says of a type's kind and of the types that it is made of. A kind decides which words are which.
use Prim.Native.Nat.{ℕ, zero, suc, ◌+◌, ◌*◌, ◌<◌, ◌≤◌, min}
use native.Mathlib.Omega.{arith}
use native.Mathlib.Decide.{dec_lt}
use mathlib.Core.Path.{◌≡◌, refl, sym, ap, ◌∙◌}
use mathlib.Core.Bool.{Bool, true, false, and-true}
use mathlib.Core.List.{List, [], ◌∷◌}
use lib.Dec.{eqb}
use lib.ListN.{length, get_or, get_or-eq_default}
use borrow.Author.Tests.{eq-eqb, ne_eqb}
use Rattle.part.proofs.Equations.{never}
use Rattle.module.specs.Module.{TypeInner, Scalar, Vector, Matrix, Atomic, Pointer, Array, Struct, BindingArray, Opaque}
use Rattle.module.specs.Decode.{tab, member_of, type_inner_of}
use Rattle.module.proofs.Tab.{length-tab, get_d_tab, map-tab}
use Rattle.context.specs.Types.{type_word, type_kind, types_of}
use Rattle.context.proofs.Types.{type_is}
use Rattle.bindings.specs.Rows.{is_base}
use Rattle.clearance.specs.Scope.{kind, bases, pairwise}
use Rattle.judge.proofs.Pairwise.{fails, equal_lists, lists_equal}

-- a type's kind as a number
abbrev pub number : TypeInner → ℕ
number x = get_or (kind x) 0 0

number-low : (k : ℕ) (o : ℕ → ℕ) → k ≤ 8 → number (type_inner_of k o) ≡ k
unfolding type_inner_of kind
number-low zero o h = refl
number-low (suc zero) o h = refl
number-low (suc (suc zero)) o h = refl
number-low (suc (suc (suc zero))) o h = refl
number-low (suc (suc (suc (suc zero)))) o h = refl
number-low (suc (suc (suc (suc (suc zero))))) o h = refl
number-low (suc (suc (suc (suc (suc (suc zero)))))) o h = refl
number-low (suc (suc (suc (suc (suc (suc (suc zero))))))) o h = refl
number-low (suc (suc (suc (suc (suc (suc (suc (suc zero)))))))) o h = refl
number-low (suc (suc (suc (suc (suc (suc (suc (suc (suc k))))))))) o h = absurd (omega arith)

opaque_past : (k : ℕ) (o : ℕ → ℕ) → 8 < k → type_inner_of k o ≡ Opaque
unfolding type_inner_of
opaque_past k o h =
    get_or-eq_default
    (Scalar ∷ Vector (o 0) ∷ Matrix (o 0) (o 1) ∷ Atomic ∷ Pointer (o 0) ∷ Array (o 0) (o 1) ∷ Struct (tab (o 0) (member_of o)) ∷ BindingArray (o 0) ∷ Opaque ∷ [])
    Opaque {n = k} h

-- a kind without sizes
kind-plain : (x : TypeInner) → (number x ≡ 1 → ⊥) → (number x ≡ 2 → ⊥) → (number x ≡ 5 → ⊥) → kind x ≡ number x ∷ []
unfolding kind
kind-plain Scalar a b c = refl
kind-plain (Vector size) a b c = absurd (a refl)
kind-plain (Matrix columns rows) a b c = absurd (b refl)
kind-plain Atomic a b c = refl
kind-plain (Pointer base) a b c = refl
kind-plain (Array base count) a b c = absurd (c refl)
kind-plain (Struct ms) a b c = refl
kind-plain (BindingArray base) a b c = refl
kind-plain Opaque a b c = refl

-- types of one base, and of none
one_base : (x : TypeInner) → is_base (number x) ≡ true → 1 ≡ length (bases x)
unfolding kind bases is_base
one_base Scalar h = never h
one_base (Vector size) h = never h
one_base (Matrix columns rows) h = never h
one_base Atomic h = never h
one_base (Pointer base) h = refl
one_base (Array base count) h = refl
one_base (Struct ms) h = never h
one_base (BindingArray base) h = refl
one_base Opaque h = never h

no_base : (x : TypeInner) → (number x ≡ 6 → ⊥) → is_base (number x) ≡ false → 0 ≡ length (bases x)
unfolding kind bases is_base
no_base Scalar n h = refl
no_base (Vector size) n h = refl
no_base (Matrix columns rows) n h = refl
no_base Atomic n h = refl
no_base (Pointer base) n h = never (sym h)
no_base (Array base count) n h = never (sym h)
no_base (Struct ms) n h = absurd (n refl)
no_base (BindingArray base) n h = never (sym h)
no_base Opaque n h = refl

one_at : (b i : ℕ) → i < 1 → b ≡ get_or (b ∷ []) i 0
one_at b zero h = refl
one_at b (suc i) h = absurd (omega arith)

first_base : (k : ℕ) (o : ℕ → ℕ) (i : ℕ) → (number (type_inner_of k o) ≡ 6 → ⊥) → i < length (bases (type_inner_of k o)) → o 0 ≡ get_or (bases (type_inner_of k o)) i 0
unfolding type_inner_of kind bases
first_base zero o i n h = absurd (omega arith)
first_base (suc zero) o i n h = absurd (omega arith)
first_base (suc (suc zero)) o i n h = absurd (omega arith)
first_base (suc (suc (suc zero))) o i n h = absurd (omega arith)
first_base (suc (suc (suc (suc zero)))) o i n h = one_at (o 0) i h
first_base (suc (suc (suc (suc (suc zero))))) o i n h = one_at (o 0) i h
first_base (suc (suc (suc (suc (suc (suc zero)))))) o i n h = absurd (n refl)
first_base (suc (suc (suc (suc (suc (suc (suc zero))))))) o i n h = one_at (o 0) i h
first_base (suc (suc (suc (suc (suc (suc (suc (suc zero)))))))) o i n h = absurd (omega arith)
first_base (suc (suc (suc (suc (suc (suc (suc (suc (suc k))))))))) o i n h = absurd (omega arith)

-- the types of a struct's members
struct_bases : (o : ℕ → ℕ) → bases (type_inner_of 6 o) ≡ tab (o 0) (λ i. o (1 + 2 * i))
unfolding bases type_inner_of member_of
struct_bases o = map-tab (λ m. m.type) (o 0) (member_of o)

-- the type t of the table
module _ (table : List ℕ) (t : ℕ) where
  abbrev type : TypeInner
  type = get_or (types_of table) t Opaque

  abbrev words : ℕ → ℕ
  words j = type_word table t (1 + j)

  pub number-opaque : {k : ℕ} → k ≡ type_kind table t → 8 < k → 8 ≡ number type
  number-opaque {k} e h = sym (rw (type_is table t, ← e, opaque_past k words h) (unfold kind in refl))

  pub number-other : {k : ℕ} → k ≡ type_kind table t → k ≤ 8 → k ≡ number type
  number-other {k} e h = sym (rw (type_is table t, ← e) (number-low k words h))

  pub number_least : {k r : ℕ} → k ≡ type_kind table t → r ≡ min k 8 → r ≡ number type
  number_least {k} {r} e h =
      elim (dec_lt 8 k) [
        | yes m ↦ h ∙ (omega arith ∙ number-opaque e m)
        | no m ↦ h ∙ (omega arith ∙ number-other e (omega arith))
      ]

  pub row_is : {k : ℕ} (n : ℕ) → n < 8 → k ≡ number type → k ≡ n → type ≡ type_inner_of n words
  row_is {k} n l e h =
      elim (dec_lt 8 (type_kind table t)) [
        | yes m ↦ absurd (omega (arith, number-opaque refl m))
        | no m ↦ type_is table t ∙ ap (λ (k : ℕ). type_inner_of k words) (omega (arith, number-other refl (omega arith)))
      ]

  -- how many types it is made of, and which
  pub count_members : {k r : ℕ} → k ≡ number type → k ≡ 6 → r ≡ type_word table t 1 → r ≡ length (bases type)
  count_members {k} {r} e h w = w ∙ sym (rw (row_is 6 (omega arith) e h, struct_bases words) (length-tab (words 0) (λ i. words (1 + 2 * i))))

  pub count_one : {k : ℕ} → k ≡ number type → is_base k ≡ true → 1 ≡ length (bases type)
  count_one e h = one_base type (rw (← e) h)

  pub count_none : {k : ℕ} → k ≡ number type → (k ≡ 6 → ⊥) → is_base k ≡ false → 0 ≡ length (bases type)
  count_none e n h = no_base type (λ q. n (e ∙ q)) (rw (← e) h)

  pub base_member : {k r : ℕ} (i : ℕ) → k ≡ number type → k ≡ 6 → i < length (bases type) → r ≡ type_word table t (2 + 2 * i) → r ≡ get_or (bases type) i 0
  base_member {k} {r} i e h l w =
      let m : i < words 0 = omega (arith, count_members e h refl) in
      let same : 1 + (1 + 2 * i) ≡ 2 + 2 * i = omega arith in
      w ∙ sym (rw (row_is 6 (omega arith) e h, struct_bases words) (get_d_tab (words 0) (λ i. words (1 + 2 * i)) i 0 m ∙ ap (type_word table t) same))

  pub base_first : {k r : ℕ} (i : ℕ) → k ≡ number type → (k ≡ 6 → ⊥) → i < length (bases type) → r ≡ type_word table t 1 → r ≡ get_or (bases type) i 0
  base_first {k} {r} i e n l w =
      w ∙ rw (type_is table t) (first_base (type_kind table t) words i (λ q. n (e ∙ (rw (type_is table t) q))) (rw (type_is table t) at l))

-- two types by their kinds and sizes
pub kinds_differ : (x y : TypeInner) {k l : ℕ} → k ≡ number x → l ≡ number y → (k ≡ l → ⊥) → false ≡ pairwise eqb (kind x) (kind y)
kinds_differ x y e f n = sym (fails (pairwise eqb (kind x) (kind y)) (λ h. n (e ∙ (ap (λ (zs : List ℕ). get_or zs 0 0) (equal_lists (kind x) (kind y) h) ∙ sym f))))

pub kinds_plain : (x y : TypeInner) {k l : ℕ} → k ≡ number x → l ≡ number y → k ≡ l → (k ≡ 1 → ⊥) → (k ≡ 2 → ⊥) → (k ≡ 5 → ⊥) → true ≡ pairwise eqb (kind x) (kind y)
kinds_plain x y e f h a b c =
    sym
    (lists_equal (kind x) (kind y)
    (kind-plain x (λ q. a (e ∙ q)) (λ q. b (e ∙ q)) (λ q. c (e ∙ q))
    ∙ (ap (λ (n : ℕ). n ∷ []) (sym e ∙ (h ∙ f))
    ∙ sym (kind-plain y (λ q. a (h ∙ (f ∙ q))) (λ q. b (h ∙ (f ∙ q))) (λ q. c (h ∙ (f ∙ q)))))))

module _ (table : List ℕ) (a b : ℕ) where
  abbrev same : Bool
  same = pairwise eqb (kind (type table a)) (kind (type table b))

  module _ {k l : ℕ} (e : k ≡ number (type table a)) (f : l ≡ number (type table b)) (h : k ≡ l) where
    same_rows : (n : ℕ) → n < 8 → k ≡ n → same ≡ pairwise eqb (kind (type_inner_of n (words table a))) (kind (type_inner_of n (words table b)))
    same_rows n m q = rw (row_is table a n m e q, row_is table b n m f (sym h ∙ q))

    pub same-vectors : {r s : ℕ} → k ≡ 1 → r ≡ type_word table a 1 → s ≡ type_word table b 1 → eqb r s ≡ same
    same-vectors {r} {s} q u v =
        sym (same_rows 1 (omega arith) q ∙ (unfold type_inner_of kind pairwise in rw (← u, ← v) (and-true (eqb r s))))

    pub other_columns : {r s : ℕ} → k ≡ 2 → r ≡ type_word table a 1 → s ≡ type_word table b 1 → (r ≡ s → ⊥) → false ≡ same
    other_columns {r} {s} q u v n =
        sym (same_rows 2 (omega arith) q ∙ (unfold type_inner_of kind pairwise in rw (← u, ← v, ne_eqb r s n)))

    pub same-matrices : {r s c d : ℕ} → k ≡ 2 → c ≡ type_word table a 1 → d ≡ type_word table b 1 → c ≡ d → r ≡ type_word table a 2 → s ≡ type_word table b 2 → eqb r s ≡ same
    same-matrices {r} {s} {c} {d} q x y n u v =
        sym (same_rows 2 (omega arith) q ∙ (unfold type_inner_of kind pairwise in rw (← x, ← y, eq-eqb c d n, ← u, ← v) (and-true (eqb r s))))

    pub same-arrays : {r s : ℕ} → k ≡ 5 → r ≡ type_word table a 2 → s ≡ type_word table b 2 → eqb r s ≡ same
    same-arrays {r} {s} q u v =
        sym (same_rows 5 (omega arith) q ∙ (unfold type_inner_of kind pairwise in rw (← u, ← v) (and-true (eqb r s))))
