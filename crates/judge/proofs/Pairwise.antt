-- Lists that are pairwise related, by their lengths and by number: so a relation's laws carry over from the elements to the lists.
use Prim.Native.Nat.{ℕ, zero, suc, ◌<◌}
use native.Mathlib.Omega.{arith}
use mathlib.Core.Path.{◌≡◌, refl, sym, ap, ◌∙◌}
use mathlib.Core.Bool.{Bool, true, false}
use mathlib.Core.List.{List, [], ◌∷◌}
use lib.Dec.{eqb}
use lib.ListN.{length, get_or}
use borrow.Author.Tests.{eq-eqb, eqb-true}
use Rattle.part.proofs.Equations.{never}
use Rattle.clearance.specs.Scope.{pairwise}
use Rattle.clearance.proofs.Small.{both_true}

-- tests that follow from each other are equal
pub same_test : (a b : Bool) → (a ≡ true → b ≡ true) → (b ≡ true → a ≡ true) → a ≡ b
same_test true b f g = sym (f refl)
same_test false true f g = g refl
same_test false false f g = refl

pub fails : (a : Bool) → (a ≡ true → ⊥) → a ≡ false
fails true f = absurd (f refl)
fails false f = refl

module _ (same : ℕ → ℕ → Bool) where
  pub pairwise-long : (xs ys : List ℕ) → pairwise same xs ys ≡ true → length xs ≡ length ys
  unfolding pairwise
  pairwise-long [] [] h = refl
  pairwise-long [] (y ∷ ys) h = never h
  pairwise-long (x ∷ xs) [] h = never h
  pairwise-long (x ∷ xs) (y ∷ ys) h = ap suc (pairwise-long xs ys (both_true (same x y) (pairwise same xs ys) h).1)

  pub pairwise-at : (xs ys : List ℕ) → pairwise same xs ys ≡ true → (i : ℕ) → i < length xs → same (get_or xs i 0) (get_or ys i 0) ≡ true
  unfolding pairwise
  pairwise-at [] ys h i l = absurd (omega arith)
  pairwise-at (x ∷ xs) [] h i l = never h
  pairwise-at (x ∷ xs) (y ∷ ys) h zero l = (both_true (same x y) (pairwise same xs ys) h).0
  pairwise-at (x ∷ xs) (y ∷ ys) h (suc i) l = pairwise-at xs ys (both_true (same x y) (pairwise same xs ys) h).1 i (omega arith)

  pub pairwise-all : (xs ys : List ℕ) → length xs ≡ length ys → ((i : ℕ) → i < length xs → same (get_or xs i 0) (get_or ys i 0) ≡ true) → pairwise same xs ys ≡ true
  unfolding pairwise
  pairwise-all [] [] e f = refl
  pairwise-all [] (y ∷ ys) e f = absurd (omega arith)
  pairwise-all (x ∷ xs) [] e f = absurd (omega arith)
  pairwise-all (x ∷ xs) (y ∷ ys) e f = rw (f 0 (omega arith)) (pairwise-all xs ys (omega arith) (λ i l. f (suc i) (omega arith)))

  pub pairwise-flip : (xs ys : List ℕ) → ((i : ℕ) → i < length xs → same (get_or xs i 0) (get_or ys i 0) ≡ true → same (get_or ys i 0) (get_or xs i 0) ≡ true) → pairwise same xs ys ≡ true → pairwise same ys xs ≡ true
  pairwise-flip xs ys f h =
      let e = pairwise-long xs ys h in
      pairwise-all ys xs (sym e) (λ i l. f i (omega arith) (pairwise-at xs ys h i (omega arith)))

  pub pairwise-join : (xs ys zs : List ℕ) → ((i : ℕ) → i < length xs → same (get_or xs i 0) (get_or ys i 0) ≡ true → same (get_or ys i 0) (get_or zs i 0) ≡ true → same (get_or xs i 0) (get_or zs i 0) ≡ true) → pairwise same xs ys ≡ true → pairwise same ys zs ≡ true → pairwise same xs zs ≡ true
  pairwise-join xs ys zs f h k =
      let e = pairwise-long xs ys h in
      pairwise-all xs zs (e ∙ pairwise-long ys zs k) (λ i l. f i l (pairwise-at xs ys h i l) (pairwise-at ys zs k i (omega arith)))

-- relations that agree on what stands in the lists
pub pairwise-agree : (same other : ℕ → ℕ → Bool) (xs ys : List ℕ) → ((i : ℕ) → i < length xs → i < length ys → same (get_or xs i 0) (get_or ys i 0) ≡ other (get_or xs i 0) (get_or ys i 0)) → pairwise same xs ys ≡ pairwise other xs ys
unfolding pairwise
pairwise-agree same other [] [] f = refl
pairwise-agree same other [] (y ∷ ys) f = refl
pairwise-agree same other (x ∷ xs) [] f = refl
pairwise-agree same other (x ∷ xs) (y ∷ ys) f =
    rw (f 0 (omega arith) (omega arith), pairwise-agree same other xs ys (λ i l m. f (suc i) (omega arith) (omega arith)))

-- lists of pairwise equal numbers are equal
pub equal_lists : (xs ys : List ℕ) → pairwise eqb xs ys ≡ true → xs ≡ ys
unfolding pairwise
equal_lists [] [] h = refl
equal_lists [] (y ∷ ys) h = never h
equal_lists (x ∷ xs) [] h = never h
equal_lists (x ∷ xs) (y ∷ ys) h =
    let z = both_true (eqb x y) (pairwise eqb xs ys) h in
    rw (eqb-true x y z.0, equal_lists xs ys z.1)

pub lists_equal : (xs ys : List ℕ) → xs ≡ ys → pairwise eqb xs ys ≡ true
lists_equal xs ys e = pairwise-all eqb xs ys (ap length e) (λ i l. eq-eqb (get_or xs i 0) (get_or ys i 0) (ap (λ (zs : List ℕ). get_or zs i 0) e))
