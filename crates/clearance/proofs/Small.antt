-- Small things: cases of a test, and lists and tests over the first numbers.
use Prim.Native.Nat.{ℕ, zero, suc, ◌<◌}
use native.Mathlib.Omega.{arith}
use native.Mathlib.Decide.{dec_lt}
use mathlib.Core.Path.{◌≡◌, refl}
use mathlib.Core.Bool.{Bool, true, false, cond, ◌&&◌}
use mathlib.Core.List.{List, [], ◌∷◌, ◌++◌}
use Rattle.part.proofs.Equations.{never}
use Rattle.clearance.specs.Needs.{each, concat}

-- to prove a thing by cases of a test
pub cases : {A : Type 0} (b : Bool) → (b ≡ true → A) → (b ≡ false → A) → A
cases true f g = f refl
cases false f g = g refl

pub both_true : (a b : Bool) → a && b ≡ true → (a ≡ true) × (b ≡ true)
both_true true b h = (refl, h)
both_true false b h = never h

pub both_are : (a b : Bool) → a ≡ true → b ≡ true → a && b ≡ true
both_are a b h g = rw h g

pub neither : (a b : List ℕ) → a ++ b ≡ [] → (a ≡ []) × (b ≡ [])
neither [] b h = (refl, h)
neither (x ∷ a) b h = (cc, cc)

pub unbroken : (q : Bool) (i : ℕ) (l : List ℕ) → cond q [] (i ∷ l) ≡ [] → q ≡ true
unbroken true i l h = refl
unbroken false i l h = cc

pub each_at : (n : ℕ) (f : ℕ → Bool) → each n f ≡ true → (i : ℕ) → i < n → f i ≡ true
unfolding each
each_at zero f h i l = absurd (omega arith)
each_at (suc n) f h i l =
    let z = both_true (f n) (each n f) h in
    elim (dec_lt i n) [ yes e ↦ each_at n f z.1 i e | no e ↦ let y : i ≡ n = omega arith in rw y z.0 ]

pub each_from : (n : ℕ) (f : ℕ → Bool) → ((i : ℕ) → i < n → f i ≡ true) → each n f ≡ true
unfolding each
each_from zero f h = refl
each_from (suc n) f h = both_are _ _ (h n (omega arith)) (each_from n f (λ i l. h i (omega arith)))

pub concat-at : (n : ℕ) (f : ℕ → List ℕ) → concat n f ≡ [] → (i : ℕ) → i < n → f i ≡ []
unfolding concat
concat-at zero f h i l = absurd (omega arith)
concat-at (suc n) f h i l =
    let z = neither (f n) (concat n f) h in
    elim (dec_lt i n) [ yes e ↦ concat-at n f z.1 i e | no e ↦ let y : i ≡ n = omega arith in rw y z.0 ]
