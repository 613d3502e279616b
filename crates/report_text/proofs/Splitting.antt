-- The input is split record by record: one that is no request is passed with its body; where it is cut short, or where fewer than four bytes are left, there is no request.
use Prim.Native.Nat.{ℕ, zero, suc, ◌+◌, ◌-◌, ◌<◌, ◌≤◌}
use native.Mathlib.Omega.{arith}
use native.Mathlib.Nat.{add-zero}
use mathlib.Core.Path.{◌≡◌, refl, sym, ap, ◌∙◌}
use mathlib.Core.Bool.{Bool, true, false, true≢false}
use mathlib.Core.List.{List, [], ◌∷◌}
use lib.ListN.{length, drop, take, length-drop}
use lib.Seq.{drop-drop, get_or-drop}
use borrow.Author.Tests.{le-leb, lt-leb, eq-eqb, ne_eqb}
use Rattle.std.specs.Prelude.{nat_eq, get_or}
use Rattle.std.specs.List.{starts_with}
use Rattle.std.proofs.lemmas.Bool.Decides.{Decides-eqb}
use Rattle.std.proofs.lemmas.List.{take_all}
use Rattle.std.proofs.lemmas.Slice.Eq.{starts_is}
use Rattle.field.specs.Field.{field_at}
use Rattle.report_text.specs.Split.{request_mark, heads_request, module_bytes}

-- what stands at the front
heads : (l : List ℕ) → 4 ≤ length l → field_at l 0 ≡ request_mark → heads_request l ≡ true
unfolding heads_request
heads l h e = rw (le-leb 4 (length l) h, eq-eqb (field_at l 0) request_mark e)

heads_other : (l : List ℕ) → (field_at l 0 ≡ request_mark → ⊥) → 4 ≤ length l → heads_request l ≡ false
unfolding heads_request
heads_other l n h = rw (le-leb 4 (length l) h, ne_eqb (field_at l 0) request_mark n)

heads_few : (l : List ℕ) → length l < 4 → heads_request l ≡ false
unfolding heads_request
heads_few l h = rw (lt-leb 4 (length l) h)

-- the letters as they are compared
abbrev letters_first : List ℕ → Bool
letters_first l = starts_with nat_eq l (82 ∷ (81 ∷ []))

begins_with : (l : List ℕ) → letters_first l ≡ true → field_at l 0 ≡ request_mark
unfolding field_at
begins_with l e = ap (λ (x : List ℕ). field_at x 0) ((starts_is Decides-eqb l (82 ∷ (81 ∷ [])) (letters_first l) refl).0 e)

-- the first is a byte, so that no other two make the same field
both_letters : (l : List ℕ) → get_or l 0 0 < 256 → 2 ≤ length l → field_at l 0 ≡ request_mark → l ≡ 82 ∷ (81 ∷ drop 2 l)
unfolding field_at
both_letters [] b h e = absurd (omega arith)
both_letters (x ∷ []) b h e = absurd (omega arith)
both_letters (x ∷ (y ∷ l)) b h e =
    let p : x ≡ 82 = omega arith in
    let q : y ≡ 81 = omega arith in
    rw (p, q) refl

begins_other : (l : List ℕ) → get_or l 0 0 < 256 → 2 ≤ length l → letters_first l ≡ false → field_at l 0 ≡ request_mark → ⊥
begins_other l b h n e = true≢false (sym ((starts_is Decides-eqb l (82 ∷ (81 ∷ [])) (letters_first l) refl).1 (drop 2 l) (both_letters l b h e)) ∙ n)

-- the bytes before a request that begins at once, or behind the record at the front
pub found : (l : List ℕ) → heads_request l ≡ true → module_bytes l 0 ≡ 0
unfolding module_bytes
found [] h = refl
found (b ∷ l) h = rw (h, module_bytes)

pub next : (b : ℕ) (l : List ℕ) → heads_request (b ∷ l) ≡ false → module_bytes (b ∷ l) 0 ≡ suc (module_bytes l (3 + field_at (b ∷ l) 2))
unfolding module_bytes
next b l h = rw (h, module_bytes)

passes : (l : List ℕ) → heads_request l ≡ false → module_bytes l 0 ≡ module_bytes l (4 + field_at l 2)
unfolding module_bytes
passes [] h = refl
passes (b ∷ l) h = let e : 4 + field_at (b ∷ l) 2 ≡ suc (3 + field_at (b ∷ l) 2) = omega arith in rw e (next b l h)

-- a record that has begun is passed
rest : (l : List ℕ) (k : ℕ) → k ≤ length l → module_bytes l k ≡ k + module_bytes (drop k l) 0
unfolding module_bytes
rest l zero h = omega arith
rest [] (suc k) h = absurd (omega arith)
rest (b ∷ l) (suc k) h = omega (arith, rest l k (omega arith))

cut : (l : List ℕ) (k : ℕ) → length l ≤ k → module_bytes l k ≡ length l
unfolding module_bytes
cut [] k h = refl
cut (b ∷ l) zero h = absurd (omega arith)
cut (b ∷ l) (suc k) h = ap suc (cut l k (omega arith))

-- no header is whole
pub few : (l : List ℕ) (k : ℕ) → length l < 4 → module_bytes l k ≡ length l
unfolding module_bytes
few [] k h = refl
few (b ∷ l) zero h = next b l (heads_few (b ∷ l) h) ∙ ap suc (few l (3 + field_at (b ∷ l) 2) (omega arith))
few (b ∷ l) (suc k) h = ap suc (few l k (omega arith))

-- up to `at` there is no request, and a record begins there
pub record Passed (s : List ℕ) (at : ℕ) : Type 0 where
  pub inside : at ≤ length s
  pub is : module_bytes s 0 ≡ at + module_bytes (drop at s) 0

pub passed_none : (s : List ℕ) → Passed s 0
passed_none s = record { inside = omega arith; is = omega arith }

module _ {s : List ℕ} {at : ℕ} (p : Passed s at) where
  field_there : (i : ℕ) → field_at (drop at s) i ≡ field_at s (at + i)
  unfolding field_at
  field_there i =
      let e : at + (i + 1) ≡ at + i + 1 = omega arith in
      rw (get_or-drop at s i 0, get_or-drop at s (i + 1) 0, e)

  left : length (drop at s) ≡ length s - at
  left = length-drop at s

  -- what is compared is all that is left
  all_left : take (length s - at) (drop at s) ≡ drop at s
  all_left = take_all (length s - at) (drop at s) (omega (arith, left))

  -- a request
  pub passed_found : 4 ≤ length s - at → letters_first (take (length s - at) (drop at s)) ≡ true → at ≡ module_bytes s 0
  passed_found h e =
      omega (arith, p.is, found (drop at s) (heads (drop at s) (omega (arith, left)) (begins_with (drop at s) (rw all_left at e))))

  -- fewer than four bytes
  pub passed_end : length s - at < 4 → length s ≡ module_bytes s 0
  passed_end h = omega (arith, p.is, p.inside, left, few (drop at s) 0 (omega (arith, left)))

  -- another record
  module _ (h : 4 ≤ length s - at) (byte : get_or s at 0 < 256) (n : letters_first (take (length s - at) (drop at s)) ≡ false) where
    other : field_at (drop at s) 0 ≡ request_mark → ⊥
    other = begins_other (drop at s) (rw (get_or-drop at s 0 0, add-zero at) byte) (omega (arith, left)) (rw all_left at n)

    onward : module_bytes (drop at s) 0 ≡ module_bytes (drop at s) (4 + field_at s (at + 2))
    onward =
        passes (drop at s) (heads_other (drop at s) other (omega (arith, left)))
        ∙ rw (field_there 2)

    pub passed_cut : length s - at < 4 + field_at s (at + 2) → length s ≡ module_bytes s 0
    passed_cut l = omega (arith, p.is, p.inside, left, onward, cut (drop at s) (4 + field_at s (at + 2)) (omega (arith, left)))

    pub passed_next : 4 + field_at s (at + 2) ≤ length s - at → Passed s (at + (4 + field_at s (at + 2)))
    passed_next l = record {
      inside = omega (arith, p.inside);
      is =
          let gone = rest (drop at s) (4 + field_at s (at + 2)) (omega (arith, left)) in
          omega (arith, p.is, onward, gone, ap (λ (xs : List ℕ). module_bytes xs 0) (drop-drop (4 + field_at s (at + 2)) at s));
    }
