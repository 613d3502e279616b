-- A number is a set of bindings: what is in a union, in a set of one and in none, bit by bit from the lowest; and the list of a set
-- ascends and has what is in the set, by induction over how far it goes.
use Prim.Native.Nat.{ℕ, zero, suc, ◌^◌, ◌/◌, ◌%◌, ◌<◌, ◌≤◌, max}
use native.Mathlib.Omega.{arith}
use native.Mathlib.Nat.{div-one, div-div-eq-div-mul, pow-succ', pow-suc, zero-div}
use native.Mathlib.Decide.{ℕ_discrete}
use mathlib.Core.Path.{◌≡◌, refl, sym, ap, ◌∙◌}
use mathlib.Core.Bool.{Bool, true, false, cond, ◌||◌}
use mathlib.Core.List.{List, [], ◌∷◌, ◌++◌}
use lib.Bits.{bit_or, or_step}
use lib.Arith.{digits_div, digits_mod}
use lib.Dec.{eqb}
use lib.ListN.{length, get_or, length-append, get_or-append}
use lib.Seq.{get_or-append_seam}
use Rattle.module.specs.Module.{Binding}
use Rattle.module.specs.Operands.{bindings}
use Rattle.bindings.specs.Bindings.{Bindings, empty, single, union, contains, set_of, list_below, list_of, Ascends}

-- the lowest bit, and those above it
contains-zero : (s : Bindings) → contains s 0 ≡ eqb (s % 2) 1
contains-zero s = rw (div-one s)

contains-suc : (s b : ℕ) → contains s (suc b) ≡ contains (s / 2) b
contains-suc s b = rw (pow-succ' 2 b, ← div-div-eq-div-mul s 2 (2 ^ b))

pub contains-empty : (b : Binding) → contains empty b ≡ false
contains-empty b = rw (zero-div (2 ^ b))

low_or : (x y : ℕ) → x < 2 → y < 2 → eqb (max x y) 1 ≡ (eqb x 1 || eqb y 1)
low_or zero zero h l = refl
low_or zero (suc zero) h l = refl
low_or zero (suc (suc y)) h l = absurd (omega arith)
low_or (suc zero) zero h l = refl
low_or (suc zero) (suc zero) h l = refl
low_or (suc zero) (suc (suc y)) h l = absurd (omega arith)
low_or (suc (suc x)) y h l = absurd (omega arith)

pub contains-union : (s t : Bindings) (b : Binding) → contains (union s t) b ≡ (contains s b || contains t b)
contains-union s t zero =
    rw (contains-zero (bit_or s t), contains-zero s, contains-zero t)
    (ap (λ x. eqb x 1) (ap (λ x. x % 2) (or_step s t) ∙ digits_mod (bit_or (s / 2) (t / 2)) (omega arith))
    ∙ low_or (s % 2) (t % 2) (omega arith) (omega arith))
contains-union s t (suc b) =
    rw (contains-suc (bit_or s t) b, contains-suc s b, contains-suc t b)
    (ap (λ x. contains x b) (ap (λ x. x / 2) (or_step s t) ∙ digits_div (bit_or (s / 2) (t / 2)) (omega arith))
    ∙ contains-union (s / 2) (t / 2) b)

half_single : (b : Binding) → single (suc b) / 2 ≡ single b
half_single b = rw (pow-suc 2 b) (omega arith)

pub contains-single : (b : Binding) → contains (single b) b ≡ true
contains-single zero = refl
contains-single (suc b) = contains-suc (single (suc b)) b ∙ rw (half_single b) (contains-single b)

pub contains-other : (b c : Binding) → (c ≡ b → ⊥) → contains (single b) c ≡ false
contains-other zero zero h = absurd (h refl)
contains-other zero (suc c) h = contains-suc 1 c ∙ contains-empty c
contains-other (suc b) zero h =
    contains-zero (single (suc b)) ∙ (let z : single (suc b) % 2 ≡ 0 = rw (pow-suc 2 b) (omega arith) in rw z)
contains-other (suc b) (suc c) h =
    contains-suc (single (suc b)) c ∙ rw (half_single b) (contains-other b c (λ e. h (ap suc e)))

-- lists
or_assoc : (a b c : Bool) → ((a || b) || c) ≡ (a || (b || c))
or_assoc true b c = refl
or_assoc false b c = refl

set_append : (bs cs : List Binding) (b : Binding) → contains (set_of (bs ++ cs)) b ≡ (contains (set_of bs) b || contains (set_of cs) b)
unfolding set_of
set_append [] cs b = rw (contains-empty b)
set_append (x ∷ bs) cs b =
    rw (contains-union (single x) (set_of (bs ++ cs)) b, contains-union (single x) (set_of bs) b, set_append bs cs b)
    (sym (or_assoc (contains (single x) b) (contains (set_of bs) b) (contains (set_of cs) b)))

or-false : (a : Bool) → (a || false) ≡ a
or-false true = refl
or-false false = refl

one_more : (l : List Binding) (n : ℕ) (b : Binding) → contains (set_of (l ++ (n ∷ []))) b ≡ (contains (set_of l) b || contains (single n) b)
unfolding set_of
one_more l n b = set_append l (n ∷ []) b ∙ rw (contains-union (single n) empty b, contains-empty b, or-false (contains (single n) b))

-- l is the list of what is in s below n
record Lists (n : ℕ) (s : Bindings) (l : List Binding) : Type 0 where
  has : (b : Binding) → b < n → contains (set_of l) b ≡ contains s b
  past : (b : Binding) → n ≤ b → contains (set_of l) b ≡ false
  low : (i : ℕ) → i < length l → get_or l i 0 < n
  ascends : Ascends l

module _ (n : ℕ) (s : Bindings) (l : List Binding) (L : Lists n s l) where
  long : length (l ++ (n ∷ [])) ≡ suc (length l)
  long = length-append l (n ∷ []) ∙ omega arith

  at_last : get_or (l ++ (n ∷ [])) (length l) 0 ≡ n
  at_last = get_or-append_seam l n [] 0

  at_before : (i : ℕ) → i < length l → get_or (l ++ (n ∷ [])) i 0 ≡ get_or l i 0
  at_before i h = get_or-append l (n ∷ []) 0 i h

  with_last : contains s n ≡ true → Lists (suc n) s (l ++ (n ∷ []))
  with_last e =
      record {
        has = λ b h.
            one_more l n b
            ∙ elim (ℕ_discrete b n) [
              | yes same ↦ rw (same, L.past n (omega arith), contains-single n, e)
              | no other ↦ rw (contains-other n b other, L.has b (omega arith)) (or-false (contains s b))
            ];
        past = λ b h. one_more l n b ∙ rw (L.past b (omega arith), contains-other n b (omega arith));
        low = λ i h.
            let k : i < suc (length l) = rw long at h in
            elim (ℕ_discrete i (length l)) [
              | yes same ↦ rw (same, at_last) (omega arith)
              | no other ↦ let m : i < length l = omega arith in rw (at_before i m) (let z = L.low i m in omega arith)
            ];
        ascends = λ i j h k.
            let m : j < suc (length l) = rw long at k in
            let first = at_before i (omega arith) in
            elim (ℕ_discrete j (length l)) [
              | yes same ↦ rw (same, at_last, first) (L.low i (omega arith))
              | no other ↦ let o : j < length l = omega arith in rw (at_before j o, first) (L.ascends i j h o)
            ];
      }

  without_last : contains s n ≡ false → Lists (suc n) s l
  without_last e =
      record {
        has = λ b h.
            elim (ℕ_discrete b n) [
              | yes same ↦ rw (same, L.past n (omega arith), e)
              | no other ↦ L.has b (omega arith)
            ];
        past = λ b h. L.past b (omega arith);
        low = λ i h. let z = L.low i h in omega arith;
        ascends = L.ascends;
      }

  next : (c : Bool) → contains s n ≡ c → Lists (suc n) s (cond c (l ++ (n ∷ [])) l)
  next true e = with_last e
  next false e = without_last e

lists : (n : ℕ) (s : Bindings) → Lists n s (list_below n s)
unfolding list_below set_of
lists zero s =
    record {
      has = λ b h. absurd (omega arith);
      past = λ b h. contains-empty b;
      low = λ i h. absurd (omega arith);
      ascends = λ i j h l. absurd (omega arith);
    }
lists (suc n) s = next n s (list_below n s) (lists n s) (contains s n) refl

-- The list of a set has what is in the set, and it ascends.
pub list_has : (s : Bindings) (b : Binding) → b < bindings → contains (set_of (list_of s)) b ≡ contains s b
list_has s b h = (lists bindings s).has b h

pub list_ascends : (s : Bindings) → Ascends (list_of s)
list_ascends s = (lists bindings s).ascends
