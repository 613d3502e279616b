-- The number of an expression among the items of the file: it is below their number, and no two expressions share one, since the
-- items of a function end before those of a later one begin.
use mathlib.Core.Path.{◌≡◌, sym, subst}
use mathlib.Core.Logic.{⊎_elim}
use mathlib.Core.List.{List}
use Prim.Native.Nat.{ℕ, zero, suc, ◌+◌, ◌<◌, ◌≤◌}
use native.Mathlib.Nat.{eq-or-lt_of_le, le_of_suc-le-suc}
use native.Mathlib.Decide.{dec_lt}
use native.Mathlib.Omega.{arith}
use Rattle.module.specs.Tables.{word, row_at, head_at, items_to}
use Rattle.access.specs.Access.{expression_number}
use Rattle.access.specs.Laid.{Laid}

module _ (t : List ℕ) (v : Laid t) where
  pub earlier : (f g : ℕ) → f < g → g < word t (head_at + 2) → items_to (row_at t f) ≤ (row_at t g).items
  earlier f zero l h = absurd (omega arith)
  earlier f (suc g) l h =
      let n = v.next g h in
      ⊎_elim
      (λ e. subst (λ (k : ℕ). items_to (row_at t k) ≤ (row_at t (suc g)).items) (sym e) n)
      (λ k.
      let i = earlier f g k (omega arith) in
      omega arith)
      (eq-or-lt_of_le (le_of_suc-le-suc l))

  -- the function of a lower number has the lower expressions
  apart : (f g e k : ℕ) → f < g → g < word t (head_at + 2) → e < (row_at t f).expressions → expression_number t f e < expression_number t g k
  apart f g e k l h he =
      let i = earlier f g l h in
      omega arith

  number_same : (f g e k : ℕ) → f < word t (head_at + 2) → g < word t (head_at + 2) → e < (row_at t f).expressions → k < (row_at t g).expressions → expression_number t f e ≡ expression_number t g k → f ≡ g
  number_same f g e k hf hg he hk same =
      elim (dec_lt f g) [
        | yes l ↦
            let a = apart f g e k l hg he in
            absurd (omega arith)
        | no n ↦
            elim (dec_lt g f) [
              | yes l ↦
                  let a = apart g f k e l hf hk in
                  absurd (omega arith)
              | no m ↦ omega arith
            ]
      ]

  pub number_once : (f g e k : ℕ) → f < word t (head_at + 2) → g < word t (head_at + 2) → e < (row_at t f).expressions → k < (row_at t g).expressions → expression_number t f e ≡ expression_number t g k → (f ≡ g) × (e ≡ k)
  number_once f g e k hf hg he hk same =
      let q = number_same f g e k hf hg he hk same in
      let p : expression_number t f e ≡ expression_number t f k = subst (λ (j : ℕ). expression_number t f e ≡ expression_number t j k) (sym q) same in
      (q, omega arith)
