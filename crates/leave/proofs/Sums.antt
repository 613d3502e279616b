-- Sums over slots: a stretch that changed within another, and empty slots.
use Prim.Native.Nat.{ℕ, zero, suc, ◌+◌, ◌-◌, ◌<◌, ◌≤◌}
use native.Mathlib.Omega.{arith}
use mathlib.Core.Path.{◌≡◌, ap}
use mathlib.Core.List.{List}
use lib.ListN.{get_or}
use Rattle.part.specs.PartReq.{PartReq, none, entries}
use Rattle.memory.specs.Memory.{sum_from}
use Rattle.memory.proofs.Slots.{sum_suc, sum_none, sum_split}
use Rattle.state.proofs.Others.{sum_same}

-- slots that differ in one stretch alone count for what that changes
pub sum_stretch : (ps qs : List PartReq) (a n b k : ℕ) → a ≤ b → b + k ≤ a + n → ((j : ℕ) → a ≤ j → j < a + n → (b ≤ j → j < b + k → ⊥) → get_or qs j none ≡ get_or ps j none)
    → sum_from qs a n + sum_from ps b k ≡ sum_from ps a n + sum_from qs b k
sum_stretch ps qs a n b k l h same =
    let e : n ≡ (b - a) + (k + (n - (b - a) - k)) = omega arith in
    let f : a + (b - a) ≡ b = omega arith in
    omega (
      arith,
      ap (λ (x : ℕ). sum_from qs a x) e,
      ap (λ (x : ℕ). sum_from ps a x) e,
      sum_split qs a (b - a) (k + (n - (b - a) - k)),
      sum_split ps a (b - a) (k + (n - (b - a) - k)),
      ap (λ (x : ℕ). sum_from qs x (k + (n - (b - a) - k))) f,
      ap (λ (x : ℕ). sum_from ps x (k + (n - (b - a) - k))) f,
      sum_split qs b k (n - (b - a) - k),
      sum_split ps b k (n - (b - a) - k),
      sum_same qs ps a (b - a) (λ j i. same (a + j) (omega arith) (omega arith) (λ x y. omega arith)),
      sum_same qs ps (b + k) (n - (b - a) - k) (λ j i. same (b + k + j) (omega arith) (omega arith) (λ x y. omega arith)),
    )

-- empty slots
pub sum_empty : (ps : List PartReq) (a n : ℕ) → ((e : ℕ) → e < n → get_or ps (a + e) none ≡ none) → sum_from ps a n ≡ 0
unfolding entries
sum_empty ps a zero h = sum_none ps a
sum_empty ps a (suc n) h = omega (arith, sum_suc ps a n, ap entries (h n (omega arith)), sum_empty ps a n (λ e l. h e (omega arith)))
