-- The slots are apart: what is put at one leaves what stands at another.
use Prim.Native.Nat.{ℕ, ◌/◌, ◌%◌}
use native.Mathlib.Omega.{arith}
use mathlib.Core.Path.{◌≡◌, refl, ap}
use mathlib.Core.Bool.{true}
use mathlib.Core.List.{List, [], ◌∷◌, ◌++◌}
use lib.Dec.{eqb}
use borrow.Author.Tests.{eqb-true}
use Rattle.clearance.specs.Shape.{begins}
use Rattle.clearance.specs.Scope.{Slot, global, local, argument, result, evaluated, slot}
use Rattle.clearance.proofs.Small.{both_true}

-- two paths that begin with the same two indexes
two : (i j k l : ℕ) (q : List ℕ) → begins (i ∷ j ∷ []) (k ∷ l ∷ q) ≡ true → (i ≡ k) × (j ≡ l)
unfolding begins
two i j k l q h =
    let z = both_true (eqb i k) _ h in
    let y = both_true (eqb j l) _ z.1 in
    (eqb-true i k z.0, eqb-true j l y.0)

one : (i k : ℕ) (p q : List ℕ) → begins (i ∷ p) (k ∷ q) ≡ true → i ≡ k
unfolding begins
one i k p q h = eqb-true i k (both_true (eqb i k) _ h).0

same_expression : (e d : ℕ) → e / 32 ≡ d / 32 → e % 32 ≡ d % 32 → e ≡ d
same_expression e d h g = omega arith

pub slots_apart : (x y : Slot) (q : List ℕ) → begins (slot x) (slot y ++ q) ≡ true → x ≡ y
unfolding slot
slots_apart (global g) (global h) q b = let z = two _ _ _ _ q b in ap global (omega (arith, z.1))
slots_apart (global g) (local h) q b = let z = one _ _ _ _ b in absurd (omega (arith, z))
slots_apart (global g) (argument h) q b = let z = one _ _ _ _ b in absurd (omega (arith, z))
slots_apart (global g) result q b = let z = one _ _ _ _ b in absurd (omega (arith, z))
slots_apart (global g) (evaluated e) q b = let z = one _ _ _ _ b in absurd (omega (arith, z))
slots_apart (local g) (global h) q b = let z = one _ _ _ _ b in absurd (omega (arith, z))
slots_apart (local g) (local h) q b = let z = two _ _ _ _ q b in ap local (omega (arith, z.1))
slots_apart (local g) (argument h) q b = let z = one _ _ _ _ b in absurd (omega (arith, z))
slots_apart (local g) result q b = let z = one _ _ _ _ b in absurd (omega (arith, z))
slots_apart (local g) (evaluated e) q b = let z = one _ _ _ _ b in absurd (omega (arith, z))
slots_apart (argument g) (global h) q b = let z = one _ _ _ _ b in absurd (omega (arith, z))
slots_apart (argument g) (local h) q b = let z = one _ _ _ _ b in absurd (omega (arith, z))
slots_apart (argument g) (argument h) q b = let z = two _ _ _ _ q b in ap argument (omega (arith, z.1))
slots_apart (argument g) result q b = let z = one _ _ _ _ b in absurd (omega (arith, z))
slots_apart (argument g) (evaluated e) q b = let z = one _ _ _ _ b in absurd (omega (arith, z))
slots_apart result (global h) q b = let z = one _ _ _ _ b in absurd (omega (arith, z))
slots_apart result (local h) q b = let z = one _ _ _ _ b in absurd (omega (arith, z))
slots_apart result (argument h) q b = let z = one _ _ _ _ b in absurd (omega (arith, z))
slots_apart result result q b = refl
slots_apart result (evaluated e) q b = let z = one _ _ _ _ b in absurd (omega (arith, z))
slots_apart (evaluated e) (global h) q b = let z = one _ _ _ _ b in absurd (omega (arith, z))
slots_apart (evaluated e) (local h) q b = let z = one _ _ _ _ b in absurd (omega (arith, z))
slots_apart (evaluated e) (argument h) q b = let z = one _ _ _ _ b in absurd (omega (arith, z))
slots_apart (evaluated e) result q b = let z = one _ _ _ _ b in absurd (omega (arith, z))
slots_apart (evaluated e) (evaluated d) q b =
    let z = two _ _ _ _ q b in ap evaluated (same_expression e d (omega (arith, z.0)) (omega (arith, z.1)))
