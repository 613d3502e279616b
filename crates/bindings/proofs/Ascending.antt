-- `are_bindings` accepts a list exactly where it ascends strictly and each is at most 63: each is below the one after it, so below all after it.
use Prim.Native.Nat.{ℕ, zero, suc, ◌<◌, ◌≤◌}
use native.Mathlib.Omega.{arith}
use mathlib.Core.Path.{◌≡◌, refl}
use mathlib.Core.Bool.{Bool, true, false, ◌&&◌, false≢true}
use mathlib.Core.List.{List, [], ◌∷◌}
use lib.Dec.{ltb}
use lib.ListN.{length, get_or}
use borrow.Author.Tests.{ltb-true, lt-ltb}
use Rattle.module.specs.Module.{Binding}
use Rattle.module.specs.Operands.{bindings}
use Rattle.bindings.specs.Bindings.{Ascends}
use Rattle.bindings.specs.ContextBindings.{binding_after, are_bindings}

and_both : (x y : Bool) → x && y ≡ true → (x ≡ true) × (y ≡ true)
and_both true y h = (refl, h)
and_both false y h = absurd (false≢true h)

first_below : (b : Binding) (bs : List Binding) → are_bindings (b ∷ bs) ≡ true → (b < binding_after bs) × (are_bindings bs ≡ true)
unfolding are_bindings
first_below b bs h =
    let both = and_both (ltb b (binding_after bs)) (are_bindings bs) h in
    (ltb-true b (binding_after bs) both.0, both.1)

least : (bs : List Binding) → are_bindings bs ≡ true → (j : ℕ) → j < length bs → binding_after bs ≤ get_or bs j 0
unfolding binding_after
least [] h j l = absurd (omega arith)
least (b ∷ bs) h zero l = omega arith
least (b ∷ bs) h (suc j) l =
    let f = first_below b bs h in
    let z = least bs f.1 j (omega arith) in
    omega (arith, f.0, z)

pub bindings_ascend : (bs : List Binding) → are_bindings bs ≡ true → Ascends bs
bindings_ascend [] h i j l k = absurd (omega arith)
bindings_ascend (b ∷ bs) h i zero l k = absurd (omega arith)
bindings_ascend (b ∷ bs) h zero (suc j) l k =
    let f = first_below b bs h in
    let z = least bs f.1 j (omega arith) in
    omega (arith, f.0, z)
bindings_ascend (b ∷ bs) h (suc i) (suc j) l k = bindings_ascend bs (first_below b bs h).1 i j (omega arith) (omega arith)

pub bindings-low : (bs : List Binding) → are_bindings bs ≡ true → (j : ℕ) → j < length bs → get_or bs j 0 < bindings
unfolding binding_after
bindings-low [] h j l = absurd (omega arith)
bindings-low (b ∷ []) h zero l = (first_below b [] h).0
bindings-low (b ∷ (c ∷ bs)) h zero l =
    let f = first_below b (c ∷ bs) h in
    let z = bindings-low (c ∷ bs) f.1 0 (omega arith) in
    omega (arith, f.0, z)
bindings-low (b ∷ bs) h (suc j) l = bindings-low bs (first_below b bs h).1 j (omega arith)

next_above : (b : Binding) (bs : List Binding) → Ascends (b ∷ bs) → b < bindings → b < binding_after bs
unfolding binding_after
next_above b [] A h = h
next_above b (c ∷ bs) A h = A 0 1 (omega arith) (omega arith)

pub ascending_are : (bs : List Binding) → Ascends bs → ((j : ℕ) → j < length bs → get_or bs j 0 < bindings) → are_bindings bs ≡ true
unfolding are_bindings
ascending_are [] A L = refl
ascending_are (b ∷ bs) A L =
    rw (lt-ltb b (binding_after bs) (next_above b bs A (L 0 (omega arith))))
    (ascending_are bs (λ i j h l. A (suc i) (suc j) (omega arith) (omega arith)) (λ j h. L (suc j) (omega arith)))
