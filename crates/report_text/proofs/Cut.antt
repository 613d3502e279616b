-- Where the input is cut, the module before the request stays the same if the request's header is still whole, and else there is no request.
use Prim.Native.Nat.{ℕ, zero, suc, ◌+◌, ◌-◌, ◌<◌, ◌≤◌}
use native.Mathlib.Omega.{arith}
use native.Mathlib.Nat.{eq-zero-or-pos}
use mathlib.Core.Path.{◌≡◌, refl, sym, ap, ◌∙◌}
use mathlib.Core.Bool.{Bool, true, false}
use mathlib.Core.Logic.{⊎_elim}
use mathlib.Core.List.{List, [], ◌∷◌}
use lib.Dec.{leb}
use lib.ListN.{length, take, length-take}
use lib.Seq.{get_or-take, length-take-le}
use borrow.Author.Tests.{le-leb, lt-leb, leb-true, leb-false}
use Rattle.field.specs.Field.{field_at}
use Rattle.report_text.specs.Split.{heads_request, module_bytes}
use Rattle.report_text.proofs.Splitting.{found, next, few}

-- by what stands at the front
module _ (b : ℕ) (l : List ℕ) where
  abbrev onward : ℕ
  onward = 3 + field_at (b ∷ l) 2

  within_at : (r : Bool) → heads_request (b ∷ l) ≡ r → module_bytes l onward ≤ length l → module_bytes (b ∷ l) 0 ≤ suc (length l)
  within_at true e h = omega (arith, found (b ∷ l) e)
  within_at false e h = omega (arith, next b l e)

pub within : (l : List ℕ) (k : ℕ) → module_bytes l k ≤ length l
unfolding module_bytes
within [] k = omega arith
within (b ∷ l) (suc k) = omega (arith, within l k)
within (b ∷ l) zero = within_at b l (heads_request (b ∷ l)) refl (within l (onward b l))

field_taken : (l : List ℕ) (n i : ℕ) → i + 2 ≤ n → field_at (take n l) i ≡ field_at l i
unfolding field_at
field_taken l n i h = rw (get_or-take n l i 0 (omega arith), get_or-take n l (i + 1) 0 (omega arith))

-- a header of four bytes
long_taken : (l : List ℕ) (n : ℕ) → 4 ≤ n → (r : Bool) → leb 4 (length l) ≡ r → leb 4 (length (take n l)) ≡ leb 4 (length l)
long_taken l n h true e = le-leb 4 (length (take n l)) (omega (arith, length-take n l, leb-true 4 (length l) e)) ∙ sym e
long_taken l n h false e = lt-leb 4 (length (take n l)) (omega (arith, length-take n l, leb-false 4 (length l) e)) ∙ sym e

heads_taken : (l : List ℕ) (n : ℕ) → 4 ≤ n → heads_request (take n l) ≡ heads_request l
unfolding heads_request
heads_taken l n h = rw (field_taken l n 0 (omega arith), long_taken l n h (leb 4 (length l)) refl)

module _ (b : ℕ) (l : List ℕ) (n : ℕ) (h : 4 ≤ suc n) where
  same : heads_request (b ∷ take n l) ≡ heads_request (b ∷ l)
  same = heads_taken (b ∷ l) (suc n) h

  next_taken : heads_request (b ∷ l) ≡ false → module_bytes (b ∷ take n l) 0 ≡ suc (module_bytes (take n l) (onward b l))
  next_taken e = next b (take n l) (same ∙ e) ∙ ap (λ (x : ℕ). suc (module_bytes (take n l) (3 + x))) (field_taken (b ∷ l) (suc n) 2 (omega arith))

  kept_at : (r : Bool) → heads_request (b ∷ l) ≡ r → module_bytes (b ∷ l) 0 + 4 ≤ suc n → (module_bytes l (onward b l) + 4 ≤ n → module_bytes (take n l) (onward b l) ≡ module_bytes l (onward b l))
      → module_bytes (b ∷ take n l) 0 ≡ module_bytes (b ∷ l) 0
  kept_at true e m k = found (b ∷ take n l) (same ∙ e) ∙ sym (found (b ∷ l) e)
  kept_at false e m k = let go = next b l e in next_taken e ∙ ap suc (k (omega arith)) ∙ sym go

  lost_at : (r : Bool) → heads_request (b ∷ l) ≡ r → suc n < module_bytes (b ∷ l) 0 + 4 → (n < module_bytes l (onward b l) + 4 → module_bytes (take n l) (onward b l) ≡ n)
      → module_bytes (b ∷ take n l) 0 ≡ suc n
  lost_at true e m k = absurd (omega (arith, found (b ∷ l) e))
  lost_at false e m k = let go = next b l e in next_taken e ∙ ap suc (k (omega arith))

-- the header stays whole
pub kept : (l : List ℕ) (k n : ℕ) → module_bytes l k + 4 ≤ n → module_bytes (take n l) k ≡ module_bytes l k
unfolding module_bytes
kept l k zero h = absurd (omega arith)
kept [] k (suc n) h = refl
kept (b ∷ l) (suc k) (suc n) h = ap suc (kept l k n (omega arith))
kept (b ∷ l) zero (suc n) h = kept_at b l n (omega arith) (heads_request (b ∷ l)) refl h (λ x. kept l (onward b l) n x)

-- it does not
pub lost : (l : List ℕ) (k n : ℕ) → n < module_bytes l k + 4 → n ≤ length l → module_bytes (take n l) k ≡ n
unfolding module_bytes
lost l k zero h fits = refl
lost [] k (suc n) h fits = absurd (omega arith)
lost (b ∷ l) (suc k) (suc n) h fits = ap suc (lost l k n (omega arith) (omega arith))
lost (b ∷ l) zero (suc n) h fits =
    ⊎_elim
    (λ small. few (b ∷ take n l) 0 (omega (arith, length-take-le n l (omega arith))) ∙ ap suc (length-take-le n l (omega arith)))
    (λ large. lost_at b l n (omega arith) (heads_request (b ∷ l)) refl h (λ x. lost l (onward b l) n x (omega arith)))
    (eq-zero-or-pos (n - 2))
