-- Sums over a list of functions, by recursion over the list.
use mathlib.Core.Path.{◌≡◌}
use mathlib.Core.List.{List, [], ◌∷◌, ◌++◌}
use Prim.Native.Nat.{ℕ, zero, suc, ◌+◌, ◌<◌, ◌≤◌}
use native.Mathlib.Omega.{arith}
use lib.ListN.{length, get_or, take}
use Rattle.module.specs.Module.{Function}
use Rattle.sound.specs.Sizes.{total}

module _ (n : Function → ℕ) where
  pub total-append : (fs gs : List Function) → total n (fs ++ gs) ≡ total n fs + total n gs
  unfolding total
  total-append [] gs = omega arith
  total-append (f ∷ fs) gs = omega (arith, total-append fs gs)

  pub total-take : (fs : List Function) (k : ℕ) → total n (take k fs) ≤ total n fs
  unfolding total
  total-take [] zero = omega arith
  total-take [] (suc k) = omega arith
  total-take (f ∷ fs) zero = omega arith
  total-take (f ∷ fs) (suc k) = omega (arith, total-take fs k)

  pub total-lower : (fs : List Function) (g f : ℕ) (d : Function) → g < f → g < length fs → total n (take g fs) + n (get_or fs g d) ≤ total n (take f fs)
  unfolding total
  total-lower [] g f d l h = absurd (omega arith)
  total-lower (x ∷ fs) g zero d l h = absurd (omega arith)
  total-lower (x ∷ fs) zero (suc f) d l h = omega arith
  total-lower (x ∷ fs) (suc g) (suc f) d l h = omega (arith, total-lower fs g f d (omega arith) (omega arith))

pub total-most : (n k : Function → ℕ) (fs : List Function) → ((f : Function) → n f ≤ k f) → total n fs ≤ total k fs
unfolding total
total-most n k [] h = omega arith
total-most n k (f ∷ fs) h = omega (arith, h f, total-most n k fs h)
