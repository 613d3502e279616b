-- A buffer in which nothing was asked yet begins with two zeros.
use Prim.Native.Nat.{ℕ}
use native.Mathlib.Omega.{arith}
use native.Mathlib.Decide.{ℕ_discrete}
use mathlib.Core.Path.{◌≡◌, refl, sym}
use mathlib.Core.Bool.{Bool, true, false, ◌&&◌}
use mathlib.Core.List.{List, [], ◌∷◌}
use lib.Dec.{leb, eqb}
use lib.ListN.{length}
use borrow.Author.Tests.{le-leb, eq-eqb, ne_eqb}
use Rattle.std.specs.List.{starts_with}
use Rattle.pruner.specs.Form.{is_fresh}

eqb_back : (a b : ℕ) → eqb a b ≡ eqb b a
eqb_back a b = elim (ℕ_discrete a b) [
  | yes e ↦ rw (eq-eqb a b e, eq-eqb b a (sym e)) refl
  | no ne ↦ rw (ne_eqb a b ne, ne_eqb b a (λ e. ne (sym e))) refl
]

never_both : (a : Bool) → a && false ≡ false
never_both true = refl
never_both false = refl

last_one : (a b : Bool) → a && (b && true) ≡ a && b
last_one true true = refl
last_one true false = refl
last_one false b = refl

pub fresh_starts : (s : List ℕ) → starts_with eqb s (0 ∷ (0 ∷ [])) ≡ is_fresh s
unfolding is_fresh
fresh_starts [] = refl
fresh_starts (x ∷ []) = never_both (eqb 0 x)
fresh_starts (x ∷ (y ∷ s)) =
    let long : leb 2 (length (x ∷ (y ∷ s))) ≡ true = le-leb 2 (length (x ∷ (y ∷ s))) (omega arith) in
    rw (long, ← eqb_back 0 x, ← eqb_back 0 y) (last_one (eqb 0 x) (eqb 0 y))
