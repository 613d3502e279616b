-- The record at the front of a buffer of totals, test by test: how long it is, or that there is none.
use Prim.Native.Nat.{ℕ, ◌+◌, ◌≤◌, ◌<◌}
use native.Mathlib.Omega.{arith}
use mathlib.Core.Path.{◌≡◌, refl, sym, ap, ◌∙◌}
use mathlib.Core.Bool.{Bool, true, false, ◌&&◌}
use mathlib.Core.List.{List}
use lib.Dec.{leb}
use lib.ListN.{length, take, length-take}
use borrow.Author.Tests.{le-leb, lt-leb}
use Rattle.std.specs.Prelude.{Some, None}
use Rattle.field.specs.Field.{word_at}
use Rattle.request.specs.Fields.{framed}
use Rattle.request.proofs.Frame.{other_length}
use Rattle.pruner.specs.Form.{min_pruner, stated}
use Rattle.pruner.specs.Reading.{RecordLength}

second_fails : (a b : Bool) → b ≡ false → a && b ≡ false
second_fails true b e = e
second_fails false b e = refl

module _ (s : List ℕ) where
  pub record_short : length s < 6 + word_at s 2 → RecordLength s None
  record_short h =
      let differs : 6 + word_at s 2 ≡ length (stated s) → ⊥ = λ e. omega (arith, length-take (6 + word_at s 2) s) in
      rw (other_length 80 78 6 (word_at s 2) (stated s) differs) refl

  module _ {long : ℕ} (is : long ≡ word_at s 2) where
    pub record_wide : min_pruner < 6 + long → RecordLength s None
    record_wide h =
        let wide : min_pruner < 6 + word_at s 2 = omega arith in
        second_fails (framed 80 78 6 (word_at s 2) (stated s)) (leb (6 + word_at s 2) min_pruner) (lt-leb (6 + word_at s 2) min_pruner wide)

    pub record_other : {r : Bool} → r ≡ framed 80 78 6 long (take (6 + long) s) → r ≡ false → RecordLength s None
    record_other e z = let failed : framed 80 78 6 (word_at s 2) (stated s) ≡ false = rw (← is) (sym e ∙ z) in rw failed refl

    pub record_there : {r : Bool} → r ≡ framed 80 78 6 long (take (6 + long) s) → r ≡ true → 6 + long ≤ min_pruner → 6 + long ≤ length s → RecordLength s (Some (6 + long))
    record_there e z small inside =
        let held : framed 80 78 6 (word_at s 2) (stated s) ≡ true = rw (← is) (sym e ∙ z) in
        let narrow : 6 + word_at s 2 ≤ min_pruner = omega arith in
        record { there = rw (held, le-leb (6 + word_at s 2) min_pruner narrow) refl; is = ap (λ n. 6 + n) is; inside = inside; small = small }
