-- The parts that `type_to_parts` lists are the components that WGSL has: each once, and nothing else, columns first and rows in them.
-- By the index, for the list that `each` makes.
use Prim.Native.Nat.{ℕ, zero, suc, ◌+◌, ◌<◌, ◌≤◌}
use native.Mathlib.Omega.{arith}
use native.Mathlib.Decide.{dec_lt, ℕ_discrete}
use mathlib.Core.Path.{◌≡◌, refl, ◌∙◌}
use mathlib.Core.List.{List, [], ◌∷◌}
use borrow.Author.Tests.{eq-eqb, ne_eqb}
use Rattle.part.specs.PartReq.{PartReq, all, none, more}
use Rattle.context.specs.Remove.{each, type_to_parts}
use Rattle.context.specs.Wgsl.{Shape, scalar, vec, mat, Component, itself, component, column}
use Rattle.context.specs.Components.{type_of, times}

-- the entries below and above the index
module _ (p : PartReq) (j : ℕ) (path : List ℕ) where
  pub times_none : times none (j ∷ path) ≡ 0
  unfolding times
  times_none = refl

  pub times-at : (i : ℕ) (r : PartReq) → i ≡ j → times (more i p r) (j ∷ path) ≡ times p path + times r (j ∷ path)
  unfolding times
  times-at i r e = simp (eq-eqb i j e)

  pub times-off : (i : ℕ) (r : PartReq) → (i ≡ j → ⊥) → times (more i p r) (j ∷ path) ≡ times r (j ∷ path)
  unfolding times
  times-off i r e = simp (ne_eqb i j e) (omega arith)

  each_below : (n k : ℕ) → j < k → times (each k n p) (j ∷ path) ≡ 0
  unfolding each
  each_below zero k h = times_none
  each_below (suc n) k h = times-off k (each (suc k) n p) (omega arith) ∙ each_below n (suc k) (omega arith)

  each-above : (n k : ℕ) → k + n ≤ j → times (each k n p) (j ∷ path) ≡ 0
  unfolding each
  each-above zero k h = times_none
  each-above (suc n) k h = times-off k (each (suc k) n p) (omega arith) ∙ each-above n (suc k) (omega arith)

  each_at : (n k : ℕ) → k ≤ j → j < k + n → times (each k n p) (j ∷ path) ≡ times p path
  unfolding each
  each_at zero k h l = absurd (omega arith)
  each_at (suc n) k h l =
      elim (ℕ_discrete k j) [
        | yes e ↦ times-at k (each (suc k) n p) e ∙ omega (arith, each_below n (suc k) (omega arith))
        | no e ↦ times-off k (each (suc k) n p) e ∙ each_at n (suc k) (omega arith) (omega arith)
      ]

  -- one that is listed is below the count
  pub each-low : (n : ℕ) → 0 < times (each 0 n p) (j ∷ path) → j < n
  each-low n h =
      elim (dec_lt j n) [
        | yes l ↦ l
        | no l ↦ let z = each-above n 0 (omega arith) in absurd (omega arith)
      ]

times-nil : (n k : ℕ) (p : PartReq) → times (each k n p) [] ≡ 0
unfolding each times
times-nil zero k p = refl
times-nil (suc n) k p = refl

-- each component is listed once
pub component_listed : (t : Shape) (path : List ℕ) → Component t path → times (type_to_parts (type_of t)) path ≡ 1
unfolding type_to_parts
component_listed scalar [] itself = unfold times in refl
component_listed scalar (i ∷ path) h = elim h [ ]
component_listed (vec size) [] h = elim h [ ]
component_listed (vec size) (i ∷ (j ∷ path)) h = elim h [ ]
component_listed (mat columns rows) [] h = elim h [ ]
component_listed (vec size) (i ∷ []) (component h) = each_at all i [] size 0 (omega arith) (omega arith) ∙ unfold times in refl
component_listed (mat columns rows) (c ∷ path) (column h k) =
    each_at (each 0 rows all) c path columns 0 (omega arith) (omega arith) ∙ component_listed (vec rows) path k

-- what is listed is a component
listed_vector : (size : ℕ) (path : List ℕ) → 0 < times (each 0 size all) path → Component (vec size) path
listed_vector size [] h = absurd (omega (arith, times-nil size 0 all))
listed_vector size (i ∷ []) h = component (each-low all i [] size h)
listed_vector size (i ∷ (j ∷ path)) h =
    let low = each-low all i (j ∷ path) size h in
    let z : times all (j ∷ path) ≡ 0 = unfold times in refl in
    absurd (omega (arith, each_at all i (j ∷ path) size 0 (omega arith) (omega arith)))

pub listed_component : (t : Shape) (path : List ℕ) → 0 < times (type_to_parts (type_of t)) path → Component t path
unfolding type_to_parts
listed_component scalar [] h = itself
listed_component scalar (j ∷ path) h = let z : times all (j ∷ path) ≡ 0 = unfold times in refl in absurd (omega arith)
listed_component (vec size) path h = listed_vector size path h
listed_component (mat columns rows) [] h = absurd (omega (arith, times-nil columns 0 (each 0 rows all)))
listed_component (mat columns rows) (c ∷ path) h =
    let low = each-low (each 0 rows all) c path columns h in
    column low (listed_vector rows path (omega (arith, each_at (each 0 rows all) c path columns 0 (omega arith) (omega arith))))
