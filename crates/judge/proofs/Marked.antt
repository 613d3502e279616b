-- A table that is filled upwards: before the first number, and one number more.
use Prim.Native.Nat.{ℕ, ◌+◌, ◌<◌}
use native.Mathlib.Omega.{arith}
use native.Mathlib.Decide.{ℕ_discrete}
use mathlib.Core.Path.{◌≡◌}
use mathlib.Core.Bool.{Bool, false}
use mathlib.Core.List.{List}
use lib.ListN.{length, set}
use lib.Seq.{get_or-set_same, get_or-set_other}
use Rattle.judge.specs.Marked.{marked}

-- the table says what p does of the numbers below n
pub record Marks (p : ℕ → Bool) (table : List Bool) (n : ℕ) : Type 0 where
  pub each : (t : ℕ) → t < n → marked table t ≡ p t

module _ (p : ℕ → Bool) (table : List Bool) where
  pub marks_none : Marks p table 0
  marks_none = record { each = λ t l. absurd (omega arith) }

  pub marks_next : {n : ℕ} (v : Bool) → n < length table → Marks p table n → v ≡ p n → Marks p (set table n v) (n + 1)
  unfolding marked
  marks_next {n} v h M e = record { each = each_next }
    where
      each_next : (t : ℕ) → t < n + 1 → marked (set table n v) t ≡ p t
      each_next t l =
          elim (ℕ_discrete t n) [
            | yes q ↦ rw (q, get_or-set_same table n v false h) e
            | no q ↦ rw (get_or-set_other table n t v false q) (M.each t (omega arith))
          ]
