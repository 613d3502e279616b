-- A decimal number: its digit, or its tenth and its last digit, by the equation of the recursion.
use Prim.Native.Nat.{ℕ, ◌+◌, ◌/◌, ◌%◌, ◌<◌, ◌≤◌}
use mathlib.Core.Path.{◌≡◌, sym, ap, ◌∙◌}
use mathlib.Core.List.{[], ◌∷◌, ◌++◌}
use native.Mathlib.Omega.{arith}
use borrow.Author.Tests.{lt-ltb, le-ltb}
use Rattle.module.specs.Knot.{knot}
use Rattle.module.proofs.Knot.{knot-is, below-lt}
use Rattle.lines.specs.Text.{digits, number}
use Rattle.lines.specs.declared.text.Text.{Text}
use Rattle.lines.specs.Wrote.{Fits, Writes}
use Rattle.lines.proofs.Writing.{texts, Rooms, rooms, rooms_first, rooms_then, writes_then, writes_as}

pub number-digit : (n : ℕ) → n < 10 → number n ≡ ((48 + n) ∷ [])
unfolding number digits
number-digit n h = knot-is digits [] n ∙ rw (lt-ltb n 10 h)

tenth_less : (n : ℕ) → 10 ≤ n → n / 10 < n
tenth_less n h = omega arith

pub number_more : (n : ℕ) → 10 ≤ n → number n ≡ number (n / 10) ++ ((48 + n % 10) ∷ [])
unfolding number digits
number_more n h = knot-is digits [] n ∙ rw (le-ltb n 10 h, below-lt (knot digits []) [] n (n / 10) (tenth_less n h))

-- one digit
pub digit_fits : {n r at : ℕ} → n < 10 → r ≡ 48 + n → Fits at (number n) → Fits at (r ∷ [])
digit_fits {n} {r} {at} h e f = rw (e, ← number-digit n h) f

pub digit_writes : {a z : Text} {n r : ℕ} → n < 10 → r ≡ 48 + n → Writes a z (r ∷ []) → Writes a z (number n)
digit_writes {n = n} h e w = writes_as (ap (λ (b : ℕ). b ∷ []) e ∙ sym (number-digit n h)) w

-- more of them
number-rooms : {n at : ℕ} → 10 ≤ n → Fits at (number n) → Rooms at (number (n / 10) ∷ (((48 + n % 10) ∷ []) ∷ []))
unfolding texts
number-rooms {n} {at} h f = rooms (number (n / 10) ∷ (((48 + n % 10) ∷ []) ∷ [])) f (number_more n h)

pub tenth_fits : {n at t : ℕ} → n ≡ t → 10 ≤ n → Fits at (number n) → (n / 10 < t) × Fits at (number (n / 10))
tenth_fits {n} {at} {t} e h f = (let l = tenth_less n h in omega arith, rooms_first (number-rooms h f))

pub last_fits : {a z : Text} {n r : ℕ} → 10 ≤ n → r ≡ 48 + n % 10 → Fits a.at (number n) → Writes a z (number (n / 10)) → Fits z.at (r ∷ [])
last_fits h e f w = rw e (rooms_first (rooms_then (number-rooms h f) w))

pub number_writes : {a b z : Text} {n r : ℕ} → 10 ≤ n → r ≡ 48 + n % 10 → Writes a b (number (n / 10)) → Writes b z (r ∷ []) → Writes a z (number n)
number_writes {n = n} h e w u =
    writes_as (ap (λ (b : ℕ). number (n / 10) ++ (b ∷ [])) e ∙ sym (number_more n h)) (writes_then w u)
