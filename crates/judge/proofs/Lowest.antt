-- The lower of a number and of what was found before, as the code answers it.
use Prim.Native.Nat.{ℕ, min}
use native.Mathlib.Omega.{arith}
use mathlib.Core.Path.{◌≡◌, ap}
use mathlib.Core.Option.{some}
use Rattle.std.specs.Prelude.{Option, Some, None}
use lib.Dec.{ltb}
use borrow.Author.Tests.{ltb-true, ltb-false}
use Rattle.clearance.specs.Judged.{lower}
use Rattle.clearance.proofs.Small.{cases}
use Rattle.judge.specs.Blamed.{blamed}

module _ (n : ℕ) (low : Option ℕ) where
  pub lower-nothing : low ≡ None → some n ≡ lower n (blamed low)
  unfolding lower
  lower-nothing h = rw h

  pub lower-least : (m : ℕ) {r : ℕ} → low ≡ Some m → r ≡ min m n → some r ≡ lower n (blamed low)
  unfolding lower
  lower-least m h e =
      rw (h, e)
      (cases (ltb m n)
      (λ a. rw a (ap some (omega (arith, ltb-true m n a))))
      (λ a. rw a (ap some (omega (arith, ltb-false m n a)))))
