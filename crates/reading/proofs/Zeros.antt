-- A list of zeros.
use mathlib.Core.Path.{◌≡◌}
use Prim.Native.Nat.{ℕ}
use native.Mathlib.Omega.{arith}
use native.Mathlib.Decide.{dec_lt}
use lib.ListN.{get_or, length-replicate, get_or-replicate, get_or-eq_default}
use Rattle.reading.specs.Reads.{zeros}

pub get_d_zeros : (n v : ℕ) → get_or (zeros n) v 0 ≡ 0
get_d_zeros n v =
    elim (dec_lt v n) [
      | yes l ↦ get_or-replicate n v 0 0 l
      | no k ↦ get_or-eq_default (zeros n) 0 (rw (length-replicate {A = ℕ} n 0) (omega arith))
    ]
