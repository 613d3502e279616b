-- What the tests of types say: a binary operator by part, and a vector among components.
use Prim.Native.Nat.{ℕ, zero, suc, ◌+◌, ◌<◌, ◌≤◌}
use native.Mathlib.Omega.{arith}
use native.Mathlib.Decide.{dec_lt}
use mathlib.Core.Path.{◌≡◌, refl, sym, ◌∙◌}
use mathlib.Core.Bool.{Bool, true, false, ◌&&◌, ◌||◌}
use mathlib.Core.List.{List, [], ◌∷◌}
use lib.Dec.{eqb}
use lib.ListN.{length, get_or}
use borrow.Author.Tests.{eq-eqb, ne_eqb}
use Rattle.part.proofs.Distinct.{or_right_true}
use Rattle.module.specs.Module.{Opaque}
use Rattle.module.specs.Decode.{expression_of}
use Rattle.module.proofs.Tab.{length-tab, get_d_tab}
use Rattle.access.specs.declared.kinded.Kinded.{Kinded}
use Rattle.access.specs.Access.{operand_at}
use Rattle.context.specs.Types.{types_of}
use Rattle.clearance.specs.Scope.{Scope, type_of, inner_of, is_kind, is_vector, any_vector, by_part}
use Rattle.judge.specs.Alike.{by_table}
use Rattle.judge.specs.Given.{scope_at, Row}
use Rattle.judge.proofs.TypeRows.{number}
use Rattle.judge.proofs.ShapeRows.{number_is}
use Rattle.judge.proofs.Operands.{operands, alike-types}
use Rattle.operands.specs.Lists.{components}

-- a type's kind
module _ (S : Scope) (types : List ℕ) (same : S.program.types ≡ types_of types) (e : ℕ) {a k : ℕ} (ta : a ≡ type_of S e) (ka : k ≡ number (get_or (types_of types) a Opaque)) where
  kind_is : k ≡ number (inner_of S e)
  unfolding inner_of
  kind_is = rw (← ta) (number_is types S same a ka)

  vector_by : is_vector (inner_of S e) ≡ eqb k 1
  unfolding is_kind
  vector_by = rw (← kind_is)

  numeric_by : (is_kind 0 (inner_of S e) || is_kind 1 (inner_of S e)) ≡ (eqb k 0 || eqb k 1)
  unfolding is_kind
  numeric_by = rw (← kind_is)

low_numeric : (k : ℕ) → k ≤ 1 → (eqb k 0 || eqb k 1) ≡ true
low_numeric zero l = refl
low_numeric (suc zero) l = refl
low_numeric (suc (suc k)) l = absurd (omega arith)

-- by part
module _ {bytes t : List ℕ} {f : ℕ} {types alike : List ℕ} {paths : List Bool} {e : ℕ} {row : Kinded} (R : Row bytes t f types alike paths e row) (h : row.kind ≡ 17) where
  abbrev S : Scope
  S = scope_at bytes t f

  abbrev o : ℕ → ℕ
  o = operand_at bytes row

  module _ {a k : ℕ} (ta : a ≡ type_of S e) (ka : k ≡ number (get_or (types_of types) a Opaque)) where
    pub part_not : 1 < k → false ≡ by_part S e (o 0) (o 1)
    unfolding by_part
    part_not l = rw (numeric_by S types R.given.values.same e ta ka, ne_eqb k 0 (λ z. omega arith), ne_eqb k 1 (λ z. omega arith))

    pub part_is : {x y b c : ℕ} {u v r : Bool} → k ≤ 1 → x ≡ o 0 → y ≡ o 1 → b ≡ type_of S x → u ≡ by_table alike b a → c ≡ type_of S y → v ≡ by_table alike c a → r ≡ u && v → r ≡ by_part S e (o 0) (o 1)
    unfolding by_part expression_of
    part_is {x} {y} l xa ya tb u tc v q =
        let below = operands R 17 h in
        let first = alike-types R.given x e (omega (arith, R.there, below.0, xa)) R.there tb ta u in
        let second = alike-types R.given y e (omega (arith, R.there, below.1, ya)) R.there tc ta v in
        q ∙ rw (numeric_by S types R.given.values.same e ta ka, low_numeric k l, first, second, xa, ya)

-- a vector among components
any_none : (S : Scope) (cs : List ℕ) → ((j : ℕ) → j < length cs → is_vector (inner_of S (get_or cs j 0)) ≡ false) → any_vector S cs ≡ false
unfolding any_vector
any_none S [] h = refl
any_none S (c ∷ cs) h = rw (h 0 (omega arith), any_none S cs (λ j l. h (suc j) (omega arith)))

any_some : (S : Scope) (cs : List ℕ) (j : ℕ) → j < length cs → is_vector (inner_of S (get_or cs j 0)) ≡ true → any_vector S cs ≡ true
unfolding any_vector
any_some S [] j l h = absurd (omega arith)
any_some S (c ∷ cs) zero l h = rw h
any_some S (c ∷ cs) (suc j) l h = or_right_true (is_vector (inner_of S c)) (any_vector S cs) (any_some S cs j (omega arith) h)

-- the first i components are no vectors
pub record NoVector (S : Scope) (o : ℕ → ℕ) (i : ℕ) : Type 0 where
  pub each : (j : ℕ) → j < i → is_vector (inner_of S (o (1 + j))) ≡ false

module _ (S : Scope) (o : ℕ → ℕ) where
  at_component : (j : ℕ) → j < o 0 → get_or (components o) j 0 ≡ o (1 + j)
  at_component j l = get_d_tab (o 0) (λ i. o (1 + i)) j 0 l

  pub no_vector_all : {m i : ℕ} → m ≡ o 0 → m ≤ i → NoVector S o i → false ≡ any_vector S (components o)
  no_vector_all e l z =
      sym
      (any_none S (components o)
      (λ j b.
      let y : j < o 0 = omega (arith, length-tab (o 0) (λ i. o (1 + i))) in
      rw (at_component j y) (z.each j (omega arith))))

  module _ (types : List ℕ) (same : S.program.types ≡ types_of types) {m i x a k : ℕ} (count : m ≡ o 0) (low : i < m) (is : x ≡ o (1 + i)) (ta : a ≡ type_of S x) (ka : k ≡ number (get_or (types_of types) a Opaque)) where
    here : is_vector (inner_of S (o (1 + i))) ≡ eqb k 1
    here = rw (← is) (vector_by S types same x ta ka)

    pub vector_found : k ≡ 1 → true ≡ any_vector S (components o)
    vector_found h =
        let y : i < o 0 = omega arith in
        sym (any_some S (components o) i (omega (arith, length-tab (o 0) (λ i. o (1 + i)))) (rw (at_component i y) (here ∙ eq-eqb k 1 h)))

    pub no_vector_next : (k ≡ 1 → ⊥) → NoVector S o i → NoVector S o (i + 1)
    no_vector_next h z = record {
      each = λ j l.
          elim (dec_lt j i) [
            | yes b ↦ z.each j b
            | no b ↦ let y : j ≡ i = omega arith in rw y (here ∙ ne_eqb k 1 h)
          ];
    }

-- joined
module _ (S : Scope) (types : List ℕ) (same : S.program.types ≡ types_of types) (e : ℕ) {a k : ℕ} (ta : a ≡ type_of S e) (ka : k ≡ number (get_or (types_of types) a Opaque)) (b : Bool) where
  pub joined_not : (k ≡ 1 → ⊥) → false ≡ is_vector (inner_of S e) && b
  joined_not h = rw (vector_by S types same e ta ka, ne_eqb k 1 h)

  pub joined_by : {r : Bool} → k ≡ 1 → r ≡ b → r ≡ is_vector (inner_of S e) && b
  joined_by h q = q ∙ rw (vector_by S types same e ta ka, eq-eqb k 1 h)
