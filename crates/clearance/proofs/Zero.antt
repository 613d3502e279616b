-- A value is zero exactly where all its numbers, within its shape, are. One that is no scalar has no number: as a selector it takes the default,
-- as a dynamic index it is out of range.
use Prim.Native.Nat.{ℕ, ◌+◌, ◌-◌, ◌<◌}
use native.Mathlib.Omega.{arith}
use mathlib.Core.Path.{◌≡◌, refl, sym, ap, subst, ◌∙◌}
use mathlib.Core.Bool.{true, false}
use mathlib.Core.List.{List, [], ◌∷◌}
use mathlib.Core.Logic.{◌↔◌}
use mathlib.Core.Option.{none as nothing}
use lib.Dec.{ltb}
use borrow.Author.Tests.{ltb-true, ltb-false, lt-ltb, le-ltb, eqb-true, eq-eqb}
use Rattle.field.specs.Limits.{absent}
use Rattle.part.proofs.Equations.{never}
use Rattle.module.specs.Module.{TypeInner, Scalar, Vector, Matrix, Atomic, Pointer, Array, Struct, BindingArray, Opaque}
use Rattle.module.specs.Module.{ExpressionHandle}
use Rattle.clearance.specs.Shape.{Shape, number, void, struct, array, member, leaf}
use Rattle.clearance.specs.Scope.{Scope, kind, is_kind, is_scalar, inner_of}
use Rattle.clearance.specs.Run.{Value, State, Operators, onward, zero_in, number_in, number_of, element_by, position, or_else, pick}
use Rattle.clearance.proofs.Small.{cases, each_at, each_from}

void-no_leaf : (q : List ℕ) → leaf void q ≡ false
unfolding leaf member
void-no_leaf [] = refl
void-no_leaf (j ∷ q) = void-no_leaf q

-- the members of a struct and the elements of an array
struct-member : (b n : ℕ) (f : ℕ → Shape) (j : ℕ) (q : List ℕ) → leaf (member (struct b n f) j) q ≡ true →
    (i : ℕ) × (i < n) × (b + i ≡ j) × (leaf (f j) q ≡ true)
unfolding member
struct-member b n f j q h =
    cases (ltb j b)
    (λ e. never (sym (void-no_leaf q) ∙ (rw e at h)))
    (λ e. cases (ltb j (b + n))
    (λ o.
    let l = ltb-false j b e in
    let m = ltb-true j (b + n) o in
    (j - b, omega arith, omega arith, rw (e, o) at h))
    (λ o. never (sym (void-no_leaf q) ∙ (rw (e, o) at h))))

member-struct : (b n : ℕ) (f : ℕ → Shape) (i : ℕ) → i < n → member (struct b n f) (b + i) ≡ f (b + i)
unfolding member
member-struct b n f i l =
    let x : ltb (b + i) b ≡ false = le-ltb (b + i) b (omega arith) in
    let y : ltb (b + i) (b + n) ≡ true = lt-ltb (b + i) (b + n) (omega arith) in
    rw (x, y)

array-member : (n : ℕ) (t : Shape) (j : ℕ) (q : List ℕ) → leaf (member (array n t) j) q ≡ true → (j < n) × (leaf t q ≡ true)
unfolding member
array-member n t j q h =
    cases (ltb j n) (λ e. (ltb-true j n e, rw e at h)) (λ e. never (sym (void-no_leaf q) ∙ (rw e at h)))

member-array : (n : ℕ) (t : Shape) (j : ℕ) → j < n → member (array n t) j ≡ t
unfolding member
member-array n t j l = rw (lt-ltb j n l)

zero_at : (t : Shape) (v : Value) → zero_in t v ≡ true → (q : List ℕ) → leaf t q ≡ true → v q ≡ 0
unfolding zero_in leaf
zero_at number v h [] l = eqb-true (v []) 0 h
zero_at number v h (j ∷ q) l = never (sym (void-no_leaf q) ∙ (unfold member in l))
zero_at void v h q l = never (sym (void-no_leaf q) ∙ l)
zero_at (struct b n f) v h [] l = never l
zero_at (struct b n f) v h (j ∷ q) l =
    let z = struct-member b n f j q l in
    let y = each_at n (λ i. zero_in (f (b + i)) (λ p. v ((b + i) ∷ p))) h z.0 z.1 in
    zero_at (f j) (λ p. v (j ∷ p)) (subst (λ i. zero_in (f i) (λ p. v (i ∷ p)) ≡ true) z.2 y) q z.3
zero_at (array n t) v h [] l = never l
zero_at (array n t) v h (j ∷ q) l =
    let z = array-member n t j q l in
    zero_at t (λ p. v (j ∷ p)) (each_at n (λ i. zero_in t (λ p. v (i ∷ p))) h j z.0) q z.1

zero_from : (t : Shape) (v : Value) → ((q : List ℕ) → leaf t q ≡ true → v q ≡ 0) → zero_in t v ≡ true
unfolding zero_in leaf
zero_from number v h = eq-eqb (v []) 0 (h [] refl)
zero_from void v h = refl
zero_from (struct b n f) v h =
    each_from n _ (λ i l. zero_from (f (b + i)) _ (λ q o. h ((b + i) ∷ q) (ap (λ t. leaf t q) (member-struct b n f i l) ∙ o)))
zero_from (array n t) v h = each_from n _ (λ i l. zero_from t _ (λ q o. h (i ∷ q) (ap (λ t. leaf t q) (member-array n t i l) ∙ o)))

pub zero_exactly : (t : Shape) (v : Value) → (zero_in t v ≡ true) ↔ ((q : List ℕ) → leaf t q ≡ true → v q ≡ 0)
zero_exactly t v = (zero_at t v, zero_from t v)

no_number : (i : TypeInner) (v : Value) → is_scalar i ≡ false → number_in i v ≡ nothing
unfolding number_in is_kind kind
no_number Scalar v h = never (sym h)
no_number (Vector n) v h = refl
no_number (Matrix columns rows) v h = refl
no_number Atomic v h = refl
no_number (Pointer base) v h = refl
no_number (Array base n) v h = refl
no_number (Struct ms) v h = refl
no_number (BindingArray base) v h = refl
no_number Opaque v h = refl

module _ (S : Scope) (ops : Operators) (s : State) (e : ExpressionHandle) (h : is_scalar (inner_of S e) ≡ false) where
  pub default_taken : (values : List ℕ) → pick values (number_of S ops s e) ≡ position absent values
  unfolding pick number_of onward or_else
  default_taken values = rw (no_number (inner_of S e) _ h)

  pub out_of_range : (n : ℕ) → element_by S ops s n e ≡ nothing
  unfolding element_by number_of onward
  out_of_range n = rw (no_number (inner_of S e) _ h)
