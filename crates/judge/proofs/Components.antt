-- Splat, Swizzle and Compose: letters, components, and the parts that they stand for.
use Prim.Native.Nat.{ℕ, zero, suc, ◌+◌, ◌*◌, ◌<◌, ◌≤◌}
use native.Mathlib.Omega.{arith}
use native.Mathlib.Decide.{ℕ_discrete}
use native.Mathlib.Numerals.{add-one}
use mathlib.Core.Path.{◌≡◌, refl, sym, ap, ◌∙◌}
use mathlib.Core.Logic.{◌⊎◌, inl, inr}
use mathlib.Core.Bool.{Bool, true, false, ◌&&◌, ◌||◌, and-false}
use mathlib.Core.List.{List, [], ◌∷◌, ◌++◌}
use lib.Dec.{ltb, eqb}
use lib.ListN.{length, get_or}
use borrow.Author.Tests.{lt-ltb, le-ltb, eq-eqb, ne_eqb}
use Rattle.module.specs.Module.{Member, TypeInner, Scalar, Vector, Matrix, Atomic, Pointer, Array, Struct, BindingArray, Opaque}
use Rattle.module.specs.Decode.{tab, type_inner_of, expression_of}
use Rattle.module.specs.Tables.{module_of}
use Rattle.module.proofs.Tab.{length-tab, get_d_tab}
use Rattle.access.specs.declared.kinded.Kinded.{Kinded}
use Rattle.context.specs.Types.{type_word, types_of}
use Rattle.clearance.specs.Scope.{Scope, inner, member_types, kind, is_kind, is_scalar, is_vector, pairwise, alike as alike_in, fits, type_of, inner_of}
use Rattle.clearance.specs.Judged.{every, part_type, same, same_part, is_value, has_vector_size, component_count, count_components, fits_compose, fits_expression}
use Rattle.judge.specs.Alike.{Lower}
use Rattle.judge.specs.Shapes.{part_count}
use Rattle.judge.specs.Given.{Row, Fits}
use Rattle.judge.proofs.TypeRows.{number, row_is}
use Rattle.judge.proofs.ShapeRows.{alike_same, inner_is, lower_in, number_is, vector_is, other}
use Rattle.judge.proofs.ValueRows.{Each, each_next, each_fails, each_all, every-last}
use Rattle.judge.proofs.Operands.{S, n, type_low, G, o, operands, by-kind}

-- letters
module _ (p : ℕ → ℕ) (n : ℕ) where
  pub letter_next : {i c : ℕ} → c ≡ p i → c < n → Each (λ k. ltb (p k) n) i → Each (λ k. ltb (p k) n) (i + 1)
  letter_next {i} {c} e l E = each_next (λ k. ltb (p k) n) (sym (rw (← e) (lt-ltb c n l))) refl E

  pub letter_past : {i c m : ℕ} (count : ℕ) → m ≡ count → i < m → c ≡ p i → n ≤ c → false ≡ every (λ i. ltb i n) (tab count p)
  letter_past {i} {c} count q l e h = each_fails (λ i. ltb i n) count p q l (sym (rw (← e) (le-ltb c n h))) refl

no_size : (x : TypeInner) (g : ℕ → Bool) → (number x ≡ 1 → ⊥) → has_vector_size x g ≡ false
unfolding kind has_vector_size
no_size Scalar g h = refl
no_size (Vector m) g h = absurd (h refl)
no_size (Matrix columns rows) g h = refl
no_size Atomic g h = refl
no_size (Pointer base) g h = refl
no_size (Array base m) g h = refl
no_size (Struct ms) g h = refl
no_size (BindingArray base) g h = refl
no_size Opaque g h = refl

-- scalars and vectors, and how many components they have
simple_kind : (x : TypeInner) → number x ≤ 1 → is_scalar x || is_vector x ≡ true
unfolding kind is_kind
simple_kind Scalar h = refl
simple_kind (Vector m) h = refl
simple_kind (Matrix columns rows) h = absurd (omega arith)
simple_kind Atomic h = absurd (omega arith)
simple_kind (Pointer base) h = absurd (omega arith)
simple_kind (Array base m) h = absurd (omega arith)
simple_kind (Struct ms) h = absurd (omega arith)
simple_kind (BindingArray base) h = absurd (omega arith)
simple_kind Opaque h = absurd (omega arith)

other_kind : (x : TypeInner) → 1 < number x → is_scalar x || is_vector x ≡ false
unfolding kind is_kind
other_kind Scalar h = absurd (omega arith)
other_kind (Vector m) h = absurd (omega arith)
other_kind (Matrix columns rows) h = refl
other_kind Atomic h = refl
other_kind (Pointer base) h = refl
other_kind (Array base m) h = refl
other_kind (Struct ms) h = refl
other_kind (BindingArray base) h = refl
other_kind Opaque h = refl

scalar_count : (x : TypeInner) → number x ≡ 0 → 1 ≡ component_count x
unfolding kind component_count
scalar_count Scalar h = refl
scalar_count (Vector m) h = absurd (omega arith)
scalar_count (Matrix columns rows) h = absurd (omega arith)
scalar_count Atomic h = absurd (omega arith)
scalar_count (Pointer base) h = absurd (omega arith)
scalar_count (Array base m) h = absurd (omega arith)
scalar_count (Struct ms) h = absurd (omega arith)
scalar_count (BindingArray base) h = absurd (omega arith)
scalar_count Opaque h = absurd (omega arith)

no_count : (x : TypeInner) → (number x ≡ 0 → ⊥) → (number x ≡ 1 → ⊥) → 0 ≡ component_count x
unfolding kind component_count
no_count Scalar g h = absurd (g refl)
no_count (Vector m) g h = absurd (h refl)
no_count (Matrix columns rows) g h = refl
no_count Atomic g h = refl
no_count (Pointer base) g h = refl
no_count (Array base m) g h = refl
no_count (Struct ms) g h = refl
no_count (BindingArray base) g h = refl
no_count Opaque g h = refl

module _ (types : List ℕ) (a : ℕ) {k : ℕ} (e : k ≡ number (get_or (types_of types) a Opaque)) where
  pub count_scalar : k ≡ 0 → 1 ≡ component_count (get_or (types_of types) a Opaque)
  count_scalar h = scalar_count (get_or (types_of types) a Opaque) (sym e ∙ h)

  pub count_vector : {r : ℕ} → k ≡ 1 → r ≡ type_word types a 1 → r ≡ component_count (get_or (types_of types) a Opaque)
  count_vector h w = w ∙ sym (rw (row_is types a 1 (omega arith) e h) (unfold type_inner_of component_count in refl))

  pub count_none : (k ≡ 0 → ⊥) → (k ≡ 1 → ⊥) → 0 ≡ component_count (get_or (types_of types) a Opaque)
  count_none g h = no_count (get_or (types_of types) a Opaque) (λ q. g (e ∙ q)) (λ q. h (e ∙ q))

count_append : (S : Scope) (xs ys : List ℕ) → count_components S (xs ++ ys) ≡ count_components S xs + count_components S ys
unfolding count_components
count_append S [] ys = omega arith
count_append S (x ∷ xs) ys = rw (count_append S xs ys) (omega arith)

count_next : (S : Scope) (g : ℕ → ℕ) (i : ℕ) → count_components S (tab (i + 1) g) ≡ count_components S (tab i g) + component_count (inner_of S (g i))
unfolding tab count_components
count_next S g i = rw (add-one i) (count_append S (tab i g) (g i ∷ []) ∙ omega arith)

-- the first i components are scalars and vectors, and have `total` components
pub record Joined (S : Scope) (g : ℕ → ℕ) (i total : ℕ) : Type 0 where
  pub simple : Each (λ k. is_scalar (inner_of S (g k)) || is_vector (inner_of S (g k))) i
  pub count : total ≡ count_components S (tab i g)
  pub small : total ≤ i * 4294967296

pub joined_none : (S : Scope) (g : ℕ → ℕ) → Joined S g 0 0
joined_none S g = record { simple = record { each = λ k l. absurd (omega arith) }; count = unfold tab count_components in refl; small = omega arith }

module _ (types : List ℕ) (S : Scope) (p : S.program.types ≡ types_of types) (g : ℕ → ℕ) where
  -- the component i, its type and kind
  module _ {i c a k : ℕ} (at : c ≡ g i) (ty : a ≡ type_of S c) (e : k ≡ number (get_or (types_of types) a Opaque)) where
    inner-here : inner_of S (g i) ≡ inner S a
    unfolding inner_of
    inner-here = rw (ty, at)

    pub joined_next : {m total : ℕ} → k ≤ 1 → m ≡ component_count (get_or (types_of types) a Opaque) → m < 4294967296 → Joined S g i total → Joined S g (i + 1) (total + m)
    joined_next {m} {total} l q s J =
        record {
          simple = each_next (λ k. is_scalar (inner_of S (g k)) || is_vector (inner_of S (g k))) (sym (rw inner-here (simple_kind (inner S a) (omega (arith, number_is types S p a e))))) refl J.simple;
          count = rw (count_next S g i, inner-here, inner_is types S p a, ← q, ← J.count);
          small = omega (arith, J.small);
        }

    pub joined_fails : {m : ℕ} (n count : ℕ) → m ≡ count → i < m → 1 < k → false ≡ every (λ c. is_scalar (inner_of S c) || is_vector (inner_of S c)) (tab count g) && eqb (count_components S (tab count g)) n
    joined_fails n count q l h =
        let z = each_fails (λ c. is_scalar (inner_of S c) || is_vector (inner_of S c)) count g q l (sym (rw inner-here (other_kind (inner S a) (omega (arith, number_is types S p a e))))) refl in
        rw (← z)

  pub joined_all : {i total m : ℕ} (n count : ℕ) → m ≡ count → m ≤ i → i ≤ m → Joined S g i total → eqb total n ≡ every (λ c. is_scalar (inner_of S c) || is_vector (inner_of S c)) (tab count g) && eqb (count_components S (tab count g)) n
  joined_all {i} n count q l h J =
      let same : count ≡ i = omega arith in
      rw (← each_all (λ c. is_scalar (inner_of S c) || is_vector (inner_of S c)) count g q l J.simple, same, ← J.count)

-- a list given by number, from its front
tab-front : (m : ℕ) (g : ℕ → ℕ) → tab (suc m) g ≡ g 0 ∷ tab m (λ i. g (suc i))
unfolding tab
tab-front zero g = refl
tab-front (suc m) g = ap (λ (xs : List ℕ). xs ++ (g (suc m) ∷ [])) (tab-front m g)

every-agree : (p q : ℕ → Bool) (g h : ℕ → ℕ) (m : ℕ) → ((k : ℕ) → k < m → p (g k) ≡ q (h k)) → every p (tab m g) ≡ every q (tab m h)
every-agree p q g h zero f = unfold every tab in refl
every-agree p q g h (suc m) f =
    every-last p m g ∙ (rw (every-agree p q g h m (λ k l. f k (omega arith)), f m (omega arith)) refl ∙ sym (every-last q m h))

module _ (S : Scope) (L : Lower S.program.types) where
  pairs_agree : (ms : List Member) (m : ℕ) (g : ℕ → ℕ) → m ≡ length ms → pairwise (λ x c. alike_in S x.type (type_of S c)) ms (tab m g) ≡ every (λ i. same S (inner S (member_types ms i)) (inner_of S (g i))) (tab m (λ i. i))
  unfolding pairwise every tab member_types inner_of
  pairs_agree [] zero g h = refl
  pairs_agree [] (suc m) g h = absurd (omega arith)
  pairs_agree (x ∷ ms) zero g h = absurd (omega arith)
  pairs_agree (x ∷ ms) (suc m) g h =
      rw (tab-front m g, tab-front m (λ i. i), alike_same S L x.type (type_of S (g 0)))
      (ap (λ (b : Bool). same S (inner S x.type) (inner S (type_of S (g 0))) && b)
      (pairs_agree ms m (λ i. g (suc i)) (omega arith)
      ∙ every-agree (λ i. same S (inner S (member_types ms i)) (inner_of S (g (suc i)))) (λ i. same S (inner S (member_types (x ∷ ms) i)) (inner_of S (g i))) (λ i. i) (λ i. suc i) m (λ k l. refl)))

  pairs_differ : (ms : List Member) (cs : List ℕ) → (length ms ≡ length cs → ⊥) → pairwise (λ x c. alike_in S x.type (type_of S c)) ms cs ≡ false
  unfolding pairwise
  pairs_differ [] [] h = absurd (h refl)
  pairs_differ [] (c ∷ cs) h = refl
  pairs_differ (x ∷ ms) [] h = refl
  pairs_differ (x ∷ ms) (c ∷ cs) h =
      rw (pairs_differ ms cs (λ q. h (ap suc q))) (and-false (alike_in S x.type (type_of S c)))

  module _ (m : ℕ) (g : ℕ → ℕ) where
    abbrev parts : TypeInner → Bool
    parts x = every (λ i. same_part S (part_type S x i) (inner_of S (g i))) (tab m (λ i. i))

    compose_parts : (x : TypeInner) → part_count x ≡ m → (number x ≡ 0 → ⊥) → (number x ≡ 1 → ⊥) → (number x ≡ 3 → ⊥) → (number x ≡ 4 → ⊥) → (number x ≡ 7 → ⊥) → (number x ≡ 8 → ⊥) → parts x ≡ fits_compose S x (tab m g)
    unfolding kind part_count part_type same_part fits_compose fits same inner_of
    compose_parts Scalar h a b c d e f = absurd (a refl)
    compose_parts (Vector size) h a b c d e f = absurd (b refl)
    compose_parts (Matrix columns rows) h a b c d e f =
        sym (rw (length-tab m g, eq-eqb m columns (sym h))
        (every-agree (λ c. fits S (Vector rows) (type_of S c)) (λ i. same_part S (part_type S (Matrix columns rows) i) (inner_of S (g i))) g (λ i. i) m
        (λ k l. sym (rw (lt-ltb k columns (omega arith))))))
    compose_parts Atomic h a b c d e f = absurd (c refl)
    compose_parts (Pointer base) h a b c d e f = absurd (d refl)
    compose_parts (Array base size) h a b c d e f =
        sym (rw (length-tab m g, eq-eqb m size (sym h))
        (every-agree (λ c. alike_in S base (type_of S c)) (λ i. same_part S (part_type S (Array base size) i) (inner_of S (g i))) g (λ i. i) m
        (λ k l. alike_same S L base (type_of S (g k)) ∙ sym (rw (lt-ltb k size (omega arith))))))
    compose_parts (Struct ms) h a b c d e f =
        sym (pairs_agree ms m g (sym h)
        ∙ every-agree (λ i. same S (inner S (member_types ms i)) (inner_of S (g i))) (λ i. same_part S (part_type S (Struct ms) i) (inner_of S (g i))) (λ i. i) (λ i. i) m
        (λ k l. sym (rw (lt-ltb k (length ms) (omega arith)))))
    compose_parts (BindingArray base) h a b c d e f = absurd (e refl)
    compose_parts Opaque h a b c d e f = absurd (f refl)

    compose_differs : (x : TypeInner) → (part_count x ≡ m → ⊥) → (number x ≡ 1 → ⊥) → false ≡ fits_compose S x (tab m g)
    unfolding kind part_count fits_compose
    compose_differs Scalar h b = refl
    compose_differs (Vector size) h b = absurd (b refl)
    compose_differs (Matrix columns rows) h b = rw (length-tab m g, ne_eqb m columns (λ q. h (sym q)))
    compose_differs Atomic h b = refl
    compose_differs (Pointer base) h b = refl
    compose_differs (Array base size) h b = rw (length-tab m g, ne_eqb m size (λ q. h (sym q)))
    compose_differs (Struct ms) h b = sym (pairs_differ ms (tab m g) (λ q. h (q ∙ length-tab m g)))
    compose_differs (BindingArray base) h b = refl
    compose_differs Opaque h b = refl

    compose_other : (x : TypeInner) → (number x ≡ 1 → ⊥) → (number x ≡ 2 → ⊥) → (number x ≡ 5 → ⊥) → (number x ≡ 6 → ⊥) → false ≡ fits_compose S x (tab m g)
    unfolding kind fits_compose
    compose_other Scalar a b c d = refl
    compose_other (Vector size) a b c d = absurd (a refl)
    compose_other (Matrix columns rows) a b c d = absurd (b refl)
    compose_other Atomic a b c d = refl
    compose_other (Pointer base) a b c d = refl
    compose_other (Array base size) a b c d = absurd (c refl)
    compose_other (Struct ms) a b c d = absurd (d refl)
    compose_other (BindingArray base) a b c d = refl
    compose_other Opaque a b c d = refl

module _ {bytes t : List ℕ} {f : ℕ} {types alike : List ℕ} {paths : List Bool} {e : ℕ} {row : Kinded} (R : Row bytes t f types alike paths e row) where
  abbrev T : Scope
  T = S (G R)

  abbrev p : (module_of bytes t).types ≡ types_of types
  p = R.given.values.same

  -- Splat
  pub fits_splat : {r : Bool} → row.kind ≡ 6 → r ≡ is_value T (o R 0) && (eqb (number (get_or (types_of types) (type_of T (o R 0)) Opaque)) 0 && eqb (number (get_or (types_of types) (type_of T e) Opaque)) 1) → Fits bytes t f e r
  unfolding expression_of fits_expression inner_of is_kind
  fits_splat h q =
      by-kind R 6 h (q ∙ rw (number_is types T p (type_of T (o R 0)) refl, number_is types T p (type_of T e) refl))

  -- Swizzle
  pub few_letters : row.kind ≡ 7 → o R 1 ≤ 4
  unfolding expression_of
  few_letters h = let z = (operands R 7 h).1.1 in rw (length-tab (o R 1) (λ i. o R (2 + i))) at z

  module _ (h : row.kind ≡ 7) {x a k : ℕ} (at : x ≡ o R 0) (ta : a ≡ type_of T x) (e1 : k ≡ number (get_or (types_of types) a Opaque)) where
    pub swizzle_other : (k ≡ 1 → ⊥) → Fits bytes t f e false
    unfolding expression_of fits_expression inner_of
    swizzle_other d =
        by-kind R 7 h (sym (rw (← at, ← ta, no_size (inner T a) (λ size. every (λ i. ltb i size) (tab (o R 1) (λ i. o R (2 + i))) && fits T (Vector (length (tab (o R 1) (λ i. o R (2 + i))))) (type_of T e)) (other types T p a e1 d)) (and-false (is_value T x))))

    pub fits-swizzle : {r : Bool} → k ≡ 1 → r ≡ is_value T x && (every (λ i. ltb i (type_word types a 1)) (tab (o R 1) (λ i. o R (2 + i))) && same T (Vector (o R 1)) (inner T (type_of T e))) → Fits bytes t f e r
    unfolding expression_of fits_expression inner_of fits same has_vector_size
    fits-swizzle d q =
        by-kind R 7 h (q ∙ rw (← at, ← ta, vector_is types T p a e1 d, length-tab (o R 1) (λ i. o R (2 + i))))

  -- Compose
  module _ (h : row.kind ≡ 8) {v : Bool} (values : v ≡ every (is_value T) (tab (o R 0) (λ i. o R (1 + i)))) {a k : ℕ} (ta : a ≡ type_of T e) (e1 : k ≡ number (get_or (types_of types) a Opaque)) where
    abbrev L : Lower (module_of bytes t).types
    L = lower_in types T p R.given.shapes.lower

    abbrev g : ℕ → ℕ
    g i = o R (1 + i)

    composed : {s r : Bool} → s ≡ fits_compose T (inner T a) (tab (o R 0) g) → r ≡ v && s → Fits bytes t f e r
    unfolding expression_of fits_expression inner_of
    composed s q = by-kind R 8 h (q ∙ rw (values, s, ta))

    pub compose_vector : {r : Bool} → k ≡ 1 → r ≡ v && (every (λ c. is_scalar (inner_of T c) || is_vector (inner_of T c)) (tab (o R 0) g) && eqb (count_components T (tab (o R 0) g)) (type_word types a 1)) → Fits bytes t f e r
    unfolding fits_compose
    compose_vector d q = composed (rw (vector_is types T p a e1 d)) q

    pub compose_none : (k ≡ 1 → ⊥) → (k ≡ 2 → ⊥) → (k ≡ 5 → ⊥) → (k ≡ 6 → ⊥) → Fits bytes t f e false
    compose_none x y z u =
        composed (compose_other T L (o R 0) g (inner T a) (other types T p a e1 x) (other types T p a e1 y) (other types T p a e1 z) (other types T p a e1 u))
        (sym (and-false v))

    -- a matrix, an array or a struct: as many parts as components, each of its component's shape
    abbrev parts_agree : ℕ → Bool
    parts_agree c = eqb c (o R 0) && every (λ i. same_part T (part_type T (inner T a) i) (inner_of T (g i))) (tab (o R 0) (λ i. i))

    compose_of : {r : Bool} (x : ℕ) → k ≡ x → (x ≡ 0 → ⊥) → (x ≡ 1 → ⊥) → (x ≡ 3 → ⊥) → (x ≡ 4 → ⊥) → (x ≡ 7 → ⊥) → (x ≡ 8 → ⊥) → r ≡ v && parts_agree (part_count (get_or (types_of types) a Opaque)) → Fits bytes t f e r
    compose_of x i x0 x1 x3 x4 x7 x8 q =
        let z = sym i ∙ number_is types T p a e1 in
        let c = ap part_count (sym (inner_is types T p a)) in
        elim (ℕ_discrete (part_count (get_or (types_of types) a Opaque)) (o R 0)) [
          | yes d ↦ composed (compose_parts T L (o R 0) g (inner T a) (sym c ∙ d) (λ j. x0 (z ∙ j)) (λ j. x1 (z ∙ j)) (λ j. x3 (z ∙ j)) (λ j. x4 (z ∙ j)) (λ j. x7 (z ∙ j)) (λ j. x8 (z ∙ j))) (q ∙ rw (eq-eqb (part_count (get_or (types_of types) a Opaque)) (o R 0) d))
          | no d ↦ composed (compose_differs T L (o R 0) g (inner T a) (λ j. d (c ∙ j)) (other types T p a e1 (λ j. x1 (sym i ∙ j)))) (q ∙ rw (ne_eqb (part_count (get_or (types_of types) a Opaque)) (o R 0) d))
        ]

    pub compose_as : {r : Bool} → (k ≡ 2) ⊎ ((k ≡ 5) ⊎ (k ≡ 6)) → r ≡ v && parts_agree (part_count (get_or (types_of types) a Opaque)) → Fits bytes t f e r
    compose_as (inl h) q = compose_of 2 h (λ j. omega arith) (λ j. omega arith) (λ j. omega arith) (λ j. omega arith) (λ j. omega arith) (λ j. omega arith) q
    compose_as (inr (inl h)) q = compose_of 5 h (λ j. omega arith) (λ j. omega arith) (λ j. omega arith) (λ j. omega arith) (λ j. omega arith) (λ j. omega arith) q
    compose_as (inr (inr h)) q = compose_of 6 h (λ j. omega arith) (λ j. omega arith) (λ j. omega arith) (λ j. omega arith) (λ j. omega arith) (λ j. omega arith) q

    pub own_low : a < length (types_of types)
    own_low = omega (arith, ta, type_low (G R) e R.there)

  -- a component by its own type, which is there
  pub part_here : (i a : ℕ) {c b : ℕ} {r : Bool} → c ≡ o R (1 + i) → b ≡ type_of T c → r ≡ same_part T (part_type T (inner T a) i) (inner T b) → r ≡ same_part T (part_type T (inner T a) i) (inner_of T (o R (1 + i)))
  unfolding inner_of
  part_here i a at tb q = q ∙ rw (tb, at)

  pub part_low : {i m c b : ℕ} → row.kind ≡ 8 → m ≡ o R 0 → i < m → c ≡ o R (1 + i) → b ≡ type_of T c → b < length (types_of types)
  unfolding expression_of
  part_low {i} {m} {c} {b} h q l at tb =
      let below = operands R 8 h i (omega (arith, length-tab (o R 0) (λ i. o R (1 + i)))) in
      let low : c < n (G R) = omega (arith, R.there, at, get_d_tab (o R 0) (λ i. o R (1 + i)) i 0 (omega arith)) in
      omega (arith, tb, type_low (G R) c low)
