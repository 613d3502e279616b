-- What reading asks of a switch's values: none of them twice, and the default among them. By recursion over the values, with those that came
-- before.
use mathlib.Core.Path.{◌≡◌, refl, sym, ◌∙◌}
use mathlib.Core.Bool.{Bool, true, false, false≢true, ◌||◌}
use mathlib.Core.Logic.{◌⊎◌, inl, inr}
use mathlib.Core.List.{List, ◌∷◌}
use Prim.Native.Nat.{ℕ, zero, suc, ◌<◌}
use native.Mathlib.Omega.{arith}
use lib.Dec.{eqb}
use borrow.Author.Tests.{eqb-true, eq-eqb}
use Rattle.field.specs.Limits.{absent}
use Rattle.module.specs.Operands.{elem}

pub or_left : (a b : Bool) → (a || b) ≡ false → a ≡ false
or_left true b h = h
or_left false b h = refl

pub or_right : (a b : Bool) → (a || b) ≡ false → b ≡ false
or_right true b h = absurd (false≢true (sym h))
or_right false b h = h

-- the n values v, after those that came before
pub record CasesRead (earlier : List ℕ) (n : ℕ) (v : ℕ → ℕ) : Type 0 where
  pub fresh : (i : ℕ) → i < n → elem (v i) earlier ≡ false
  pub distinct : (i j : ℕ) → i < j → j < n → v i ≡ v j → ⊥
  pub default : (elem absent earlier ≡ true) ⊎ ((i : ℕ) × ((i < n) × (v i ≡ absent)))

pub cases_none : (earlier : List ℕ) (v : ℕ → ℕ) → elem absent earlier ≡ true → CasesRead earlier 0 v
cases_none earlier v h =
    record { fresh = λ i l. absurd (omega arith); distinct = λ i j k l e. absurd (omega arith); default = inl h }

-- one value more, before the others
module _ (earlier : List ℕ) (n : ℕ) (v : ℕ → ℕ) (new : elem (v 0) earlier ≡ false) where
  module _ (later : (i : ℕ) → i < n → (eqb (v (suc i)) (v 0) || elem (v (suc i)) earlier) ≡ false) where
    fresh_more : (i : ℕ) → i < suc n → elem (v i) earlier ≡ false
    fresh_more zero l = new
    fresh_more (suc i) l = or_right (eqb (v (suc i)) (v 0)) (elem (v (suc i)) earlier) (later i (omega arith))

    distinct_more : ((i j : ℕ) → i < j → j < n → v (suc i) ≡ v (suc j) → ⊥) → (i j : ℕ) → i < j → j < suc n → v i ≡ v j → ⊥
    distinct_more h i zero k l e = absurd (omega arith)
    distinct_more h zero (suc j) k l e =
        false≢true (sym (or_left (eqb (v (suc j)) (v 0)) (elem (v (suc j)) earlier) (later j (omega arith))) ∙ eq-eqb (v (suc j)) (v 0) (sym e))
    distinct_more h (suc i) (suc j) k l e = h i j (omega arith) (omega arith) e

  abbrev Default : Type 0
  Default = (elem absent earlier ≡ true) ⊎ ((i : ℕ) × ((i < suc n) × (v i ≡ absent)))

  first_or : (b : Bool) → eqb absent (v 0) ≡ b → (b || elem absent earlier) ≡ true → Default
  first_or true q h = inr (0, (omega arith, sym (eqb-true absent (v 0) q)))
  first_or false q h = inl h

  default_more : ((eqb absent (v 0) || elem absent earlier) ≡ true) ⊎ ((i : ℕ) × ((i < n) × (v (suc i) ≡ absent))) → Default
  default_more (inl h) = first_or (eqb absent (v 0)) refl h
  default_more (inr (i, (l, e))) = inr (suc i, (omega arith, e))

  pub cases_more : CasesRead (v 0 ∷ earlier) n (λ i. v (suc i)) → CasesRead earlier (suc n) v
  unfolding elem
  cases_more c =
      record { fresh = fresh_more c.fresh; distinct = distinct_more c.fresh c.distinct; default = default_more c.default }
