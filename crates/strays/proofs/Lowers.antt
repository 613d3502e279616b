-- The lowest of two lists is the lower of the lowest of each, which may be found one after the other. By cases of which is lower.
use Prim.Native.Nat.{ℕ, ◌<◌, ◌≤◌}
use native.Mathlib.Omega.{arith}
use mathlib.Core.Path.{◌≡◌, refl, sym, ap, ◌∙◌}
use mathlib.Core.Bool.{Bool, true, false, cond}
use mathlib.Core.List.{List, [], ◌∷◌, ◌++◌}
use mathlib.Core.Option.{Option as Maybe, some, none as nothing}
use Rattle.std.specs.Prelude.{Option, Some, None}
use lib.Dec.{ltb}
use borrow.Author.Tests.{lt-ltb, le-ltb, ltb-true, ltb-false}
use Rattle.clearance.specs.Judged.{unless, lower, lowest}
use Rattle.clearance.proofs.Small.{cases}
use Rattle.judge.specs.Blamed.{blamed}
use Rattle.strays.specs.Lower.{lower_of}

abbrev less : ℕ → ℕ → ℕ
less a b = cond (ltb a b) a b

less-assoc : (n m k : ℕ) → less (less k m) n ≡ less k (less m n)
less-assoc n m k =
    cases (ltb k m)
    (λ a. cases (ltb m n)
    (λ b. let l : k < n = omega (arith, ltb-true k m a, ltb-true m n b) in rw (a, b, lt-ltb k n l, a))
    (λ b. rw (a, b)))
    (λ a. cases (ltb m n)
    (λ b. rw (a, b, a))
    (λ b. let l : n ≤ k = omega (arith, ltb-false k m a, ltb-false m n b) in rw (a, b, le-ltb k n l)))

lower-lower : (n m : ℕ) (z : Maybe ℕ) → lower n (lower m z) ≡ lower_of (lower n (some m)) z
unfolding lower lower_of
lower-lower n m nothing = refl
lower-lower n m (some k) = ap some (less-assoc n m k)

lower_of-lower : (n : ℕ) (y z : Maybe ℕ) → lower n (lower_of y z) ≡ lower_of (lower n y) z
unfolding lower_of
lower_of-lower n nothing z = unfold lower in refl
lower_of-lower n (some m) z = lower-lower n m z

assoc : (x y z : Maybe ℕ) → lower_of x (lower_of y z) ≡ lower_of (lower_of x y) z
unfolding lower_of
assoc nothing y z = refl
assoc (some n) y z = lower_of-lower n y z

pub lowest_append : (a b : List ℕ) → lowest (a ++ b) ≡ lower_of (lowest a) (lowest b)
unfolding lowest lower_of
lowest_append [] b = refl
lowest_append (n ∷ a) b = ap (lower n) (lowest_append a b) ∙ lower_of-lower n (lowest a) (lowest b)

-- b, and then a
pub then : (a b : List ℕ) (x y z : Maybe ℕ) → y ≡ lower_of (lowest b) x → z ≡ lower_of (lowest a) y → z ≡ lower_of (lowest (a ++ b)) x
then a b x y z p q =
    q ∙ ap (lower_of (lowest a)) p ∙ assoc (lowest a) (lowest b) x ∙ ap (λ (l : Maybe ℕ). lower_of l x) (sym (lowest_append a b))

pub none_before : (x : Maybe ℕ) → lower_of x nothing ≡ x
unfolding lower_of
none_before nothing = refl
none_before (some n) = unfold lower in refl

-- what the code answers
module _ (a : Option ℕ) (b : Maybe ℕ) where
  pub of_nothing : a ≡ None → b ≡ lower_of (blamed a) b
  unfolding lower_of
  of_nothing h = rw h

  pub of_some : (n : ℕ) (r : Maybe ℕ) → a ≡ Some n → r ≡ lower n b → r ≡ lower_of (blamed a) b
  unfolding lower_of
  of_some n r h q = rw h q

module _ (n : ℕ) (allowed : Bool) (low : Maybe ℕ) where
  pub unless_allowed : allowed ≡ true → low ≡ lower_of (lowest (unless allowed n)) low
  unfolding lower_of unless lowest
  unless_allowed h = rw h

  pub unless_not : (r : Maybe ℕ) → allowed ≡ false → r ≡ lower n low → r ≡ lower_of (lowest (unless allowed n)) low
  unfolding lower_of unless lowest lower
  unless_not r h q = rw h q
