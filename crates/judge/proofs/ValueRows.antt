-- What the module's tables and that of paths say of an expression's type and of values, and tests of each of a list's elements.
use Prim.Native.Nat.{ℕ, zero, suc, ◌+◌, ◌<◌, ◌≤◌}
use native.Mathlib.Omega.{arith}
use native.Mathlib.Decide.{dec_lt}
use mathlib.Core.Path.{◌≡◌, refl, sym, ap, ◌∙◌}
use mathlib.Core.Bool.{Bool, true, false, not, ◌&&◌, and-false}
use mathlib.Core.List.{List, [], ◌∷◌, ◌++◌}
use lib.Dec.{eqb}
use lib.ListN.{length, get_or, get_or-eq_default}
use borrow.Author.Count.{below_more}
use Rattle.module.specs.Module.{Typed, Opaque}
use Rattle.module.specs.Decode.{tab}
use Rattle.module.specs.Tables.{function_of}
use Rattle.module.proofs.Knot.{knot-is}
use Rattle.access.specs.Access.{typed_at}
use Rattle.access.proofs.Access.{typed_is}
use Rattle.context.specs.Types.{types_of}
use Rattle.clearance.specs.Scope.{Scope, nowhere, step_from, no_expression, typed, type_of, inner_of, is_kind, path_of, is_path}
use Rattle.clearance.specs.Judged.{every, is_value}
use Rattle.judge.specs.Marked.{marked}
use Rattle.judge.specs.Paths.{PathTable}
use Rattle.judge.specs.Given.{scope_at, Values}
use Rattle.judge.proofs.TypeRows.{number}
use Rattle.judge.proofs.ShapeRows.{number_is}

-- a test of the first i numbers
pub record Each (p : ℕ → Bool) (i : ℕ) : Type 0 where
  pub each : (k : ℕ) → k < i → p k ≡ true

module _ (p : ℕ → Bool) where
  pub each_none : Each p 0
  each_none = record { each = λ k l. absurd (omega arith) }

  pub each_next : {i : ℕ} {r : Bool} → r ≡ p i → r ≡ true → Each p i → Each p (i + 1)
  each_next {i} e h E = record { each = below_more (λ (k : ℕ). p k ≡ true) i E.each (sym e ∙ h) }

-- every element of two lists after each other, and of a list that is given by number
every_append : (p : ℕ → Bool) (xs ys : List ℕ) → every p (xs ++ ys) ≡ every p xs && every p ys
unfolding every
every_append p [] ys = refl
every_append p (x ∷ xs) ys = rw (every_append p xs ys) (and_assoc (p x) (every p xs) (every p ys))
  where
    and_assoc : (a b c : Bool) → a && (b && c) ≡ (a && b) && c
    and_assoc true b c = refl
    and_assoc false b c = refl

pub every-last : (p : ℕ → Bool) (n : ℕ) (g : ℕ → ℕ) → every p (tab (suc n) g) ≡ every p (tab n g) && (p (g n) && true)
unfolding every tab
every-last p n g = every_append p (tab n g) (g n ∷ [])

pub every-all : (p : ℕ → Bool) (n : ℕ) (g : ℕ → ℕ) → ((k : ℕ) → k < n → p (g k) ≡ true) → every p (tab n g) ≡ true
every-all p zero g f = unfold every tab in refl
every-all p (suc n) g f = every-last p n g ∙ rw (every-all p n g (λ k l. f k (omega arith)), f n (omega arith))

pub every-not : (p : ℕ → Bool) (n : ℕ) (g : ℕ → ℕ) (i : ℕ) → i < n → p (g i) ≡ false → every p (tab n g) ≡ false
every-not p zero g i l h = absurd (omega arith)
every-not p (suc n) g i l h =
    elim (dec_lt i n) [
      | yes m ↦ every-last p n g ∙ rw (every-not p n g i m h)
      | no m ↦ let z : i ≡ n = omega arith in every-last p n g ∙ (rw (← z, h) (and-false (every p (tab i g))))
    ]

module _ (p : ℕ → Bool) (n : ℕ) (g : ℕ → ℕ) where
  pub each_fails : {i : ℕ} {r : Bool} {m : ℕ} → m ≡ n → i < m → r ≡ p (g i) → r ≡ false → false ≡ every p (tab n g)
  each_fails {i} e l f h = sym (every-not p n g i (omega arith) (sym f ∙ h))

  pub each_all : {i m : ℕ} → m ≡ n → m ≤ i → Each (λ k. p (g k)) i → true ≡ every p (tab n g)
  each_all e l E = sym (every-all p n g (λ k h. E.each k (omega arith)))

-- an expression that is not there is no path
no-path : (S : Scope) (e : ℕ) → length S.function.expressions ≤ e → is_path S e ≡ false
unfolding is_path path_of typed
no-path S e l =
    rw (
      knot-is (λ path h. step_from path (get_or S.function.expressions h no_expression).expression) nowhere e,
      get_or-eq_default S.function.expressions no_expression {n = e} l,
    )
    (unfold step_from in refl)

not_marked : (table : List Bool) (e : ℕ) → length table ≤ e → marked table e ≡ false
unfolding marked
not_marked table e l = rw (get_or-eq_default table false {n = e} l)

module _ (bytes t : List ℕ) (f : ℕ) where
  abbrev S : Scope
  S = scope_at bytes t f

  pub type-there : (e : ℕ) {n r : ℕ} → n ≡ length (function_of bytes t f).expressions → e < n → r ≡ (typed_at bytes t f e).type → r ≡ type_of S e
  unfolding type_of typed
  type-there e h l q = q ∙ ap (λ (x : Typed). x.type) (sym (typed_is bytes t f e no_expression (omega arith)))

  pub type_none : (e : ℕ) {n : ℕ} → n ≡ length (function_of bytes t f).expressions → n ≤ e → 0 ≡ type_of S e
  unfolding type_of typed
  type_none e h l = sym (ap (λ (x : Typed). x.type) (get_or-eq_default (function_of bytes t f).expressions no_expression {n = e} (omega arith)))

  pub path_is : {paths : List Bool} → PathTable (function_of bytes t f).expressions paths → (e : ℕ) {w : Bool} → w ≡ marked paths e → w ≡ is_path S e
  path_is {paths} table e h =
      elim (dec_lt e (length (function_of bytes t f).expressions)) [
        | yes l ↦ rw h (table.is S refl e l)
        | no l ↦ rw h (not_marked paths e (omega (arith, table.long)) ∙ sym (no-path S e (omega arith)))
      ]

  module _ {types : List ℕ} {paths : List Bool} (G : Values bytes t f types paths) (e : ℕ) where
    pub value_path : {b : Bool} → b ≡ is_path S e → b ≡ true → false ≡ is_value S e
    unfolding is_value
    value_path q h = rw (← q, h)

    pub value_kind : {b : Bool} {a k : ℕ} → b ≡ is_path S e → b ≡ false → a ≡ type_of S e → k ≡ number (get_or (types_of types) a Opaque) → not (eqb k 4) ≡ is_value S e
    unfolding is_value inner_of is_kind
    value_kind {b} {a} {k} q h u w = rw (← q, h, ← u, ← number_is types S G.same a w)
