-- Two words that are written to the front of a list.
use Prim.Native.Nat.{ℕ, ◌≤◌}
use native.Mathlib.Omega.{arith}
use mathlib.Core.Path.{refl}
use mathlib.Core.List.{List, [], ◌∷◌}
use lib.ListN.{length, set}
use Rattle.place.specs.Slots.{Written}

pub written : (path : List ℕ) (a b : ℕ) → 2 ≤ length path → Written (a ∷ b ∷ []) path (set (set path 0 a) 1 b)
written [] a b l = absurd (omega arith)
written (x ∷ []) a b l = absurd (omega arith)
written (x ∷ (y ∷ r)) a b l = record { is = refl; rest = refl; long = refl }
