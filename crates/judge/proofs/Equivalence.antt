-- `alike` is one step over its own answers for lower types, and so, by induction over the first type, an equivalence.
use Prim.Native.Nat.{ℕ, zero, suc, ◌<◌}
use native.Mathlib.Omega.{arith}
use native.Mathlib.Decide.{dec_lt}
use mathlib.Core.Path.{◌≡◌, refl, sym, ap, subst, ◌∙◌}
use mathlib.Core.Bool.{Bool, true, false, ◌&&◌}
use mathlib.Core.List.{List, [], ◌∷◌, map}
use lib.Dec.{eqb}
use lib.ListN.{length, get_or, get_or-eq_default}
use Rattle.module.specs.Module.{TypeHandle, Member, TypeInner, Scalar, Vector, Matrix, Atomic, Pointer, Array, Struct, BindingArray, Opaque, Module}
use Rattle.module.specs.Knot.{below}
use Rattle.module.proofs.Knot.{knot-is, below-lt}
use Rattle.valid.specs.Valid.{EachBelow, TypeFine, Valid}
use Rattle.clearance.specs.Scope.{Scope, inner, kind, bases, pairwise, alike_inner, alike}
use Rattle.clearance.proofs.Small.{both_true}
use Rattle.judge.specs.Alike.{alike_in, Lower}
use Rattle.judge.proofs.Pairwise.{pairwise-all, pairwise-flip, pairwise-join, pairwise-agree, equal_lists, lists_equal}

pub alike-in : (S : Scope) (t u : TypeHandle) → alike_in S.program.types t u ≡ alike S t u
unfolding alike_in alike inner
alike-in S t u = refl

-- A valid module's types are made of lower ones.
members_below : (n : ℕ) (ms : List Member) → ((i : ℕ) (d : Member) → i < length ms → (get_or ms i d).type < n) → EachBelow n (map (λ m. m.type) ms)
members_below n [] f i l = absurd (omega arith)
members_below n (m ∷ ms) f zero l = f 0 m (omega arith)
members_below n (m ∷ ms) f (suc i) l = members_below n ms (λ j d k. f (suc j) d (omega arith)) i (omega arith)

one_below : (n b : ℕ) → b < n → EachBelow n (b ∷ [])
one_below n b h zero l = h
one_below n b h (suc i) l = absurd (omega arith)

none_below : (n : ℕ) → EachBelow n []
none_below n i l = absurd (omega arith)

bases-below : (n : ℕ) (x : TypeInner) → TypeFine n x → EachBelow n (bases x)
unfolding bases
bases-below n Scalar f = none_below n
bases-below n (Vector size) f = none_below n
bases-below n (Matrix columns rows) f = none_below n
bases-below n Atomic f = none_below n
bases-below n (Pointer base) f = one_below n base f
bases-below n (Array base count) f = one_below n base f.0
bases-below n (Struct ms) f = members_below n ms (λ i d l. (f i d l).0)
bases-below n (BindingArray base) f = one_below n base f
bases-below n Opaque f = none_below n

pub lower_types : (m : Module) → Valid m → Lower m.types
lower_types m v = record { each = each_lower }
  where
    each_lower : (t : ℕ) → EachBelow t (bases (get_or m.types t Opaque))
    each_lower t =
        elim (dec_lt t (length m.types)) [
          | yes l ↦ bases-below t (get_or m.types t Opaque) (v.types t Opaque l).fine
          | no l ↦ subst (λ x. EachBelow t (bases x)) (sym (get_or-eq_default m.types Opaque {n = t} (omega arith))) (unfold bases in none_below t)
        ]

-- one step: the kinds and the bases
pub inner_true : (same : ℕ → ℕ → Bool) (x y : TypeInner) → pairwise eqb (kind x) (kind y) ≡ true → pairwise same (bases x) (bases y) ≡ true → alike_inner same x y ≡ true
unfolding alike_inner
inner_true same x y h l = rw (h, l)

pub inner_parts : (same : ℕ → ℕ → Bool) (x y : TypeInner) → alike_inner same x y ≡ true → (pairwise eqb (kind x) (kind y) ≡ true) × (pairwise same (bases x) (bases y) ≡ true)
unfolding alike_inner
inner_parts same x y h = both_true (pairwise eqb (kind x) (kind y)) (pairwise same (bases x) (bases y)) h

pub inner_agree : (same other : ℕ → ℕ → Bool) (x y : TypeInner) → ((i : ℕ) → i < length (bases x) → i < length (bases y) → same (get_or (bases x) i 0) (get_or (bases y) i 0) ≡ other (get_or (bases x) i 0) (get_or (bases y) i 0)) → alike_inner same x y ≡ alike_inner other x y
unfolding alike_inner
inner_agree same other x y f = ap (λ (b : Bool). pairwise eqb (kind x) (kind y) && b) (pairwise-agree same other (bases x) (bases y) f)

module _ (types : List TypeInner) (L : Lower types) where
  pub alike_is : (t u : ℕ) → alike_in types t u ≡ alike_inner (alike_in types) (get_or types t Opaque) (get_or types u Opaque)
  unfolding alike_in
  alike_is t u =
      ap (λ (w : ℕ → Bool). w u) (knot-is (λ same h g. alike_inner same (get_or types h Opaque) (get_or types g Opaque)) (λ g. false) t)
      ∙ inner_agree (below (alike_in types) (λ g. false) t) (alike_in types) (get_or types t Opaque) (get_or types u Opaque)
      (λ i l m. ap (λ (w : ℕ → Bool). w (get_or (bases (get_or types u Opaque)) i 0)) (below-lt (alike_in types) (λ g. false) t (get_or (bases (get_or types t Opaque)) i 0) (L.each t i l)))

  refl_below : (n t : ℕ) → t < n → alike_in types t t ≡ true
  refl_below zero t h = absurd (omega arith)
  refl_below (suc n) t h =
      let x = get_or types t Opaque in
      alike_is t t
      ∙ inner_true (alike_in types) x x (lists_equal (kind x) (kind x) refl)
      (pairwise-all (alike_in types) (bases x) (bases x) refl (λ i l. refl_below n (get_or (bases x) i 0) (omega (arith, L.each t i l))))

  pub alike_refl : (t : ℕ) → alike_in types t t ≡ true
  alike_refl t = refl_below (suc t) t (omega arith)

  sym_below : (n t u : ℕ) → t < n → alike_in types t u ≡ true → alike_in types u t ≡ true
  sym_below zero t u h e = absurd (omega arith)
  sym_below (suc n) t u h e =
      let x = get_or types t Opaque in
      let y = get_or types u Opaque in
      let p = inner_parts (alike_in types) x y (sym (alike_is t u) ∙ e) in
      alike_is u t
      ∙ inner_true (alike_in types) y x (lists_equal (kind y) (kind x) (sym (equal_lists (kind x) (kind y) p.0)))
      (pairwise-flip (alike_in types) (bases x) (bases y) (λ i l q. sym_below n (get_or (bases x) i 0) (get_or (bases y) i 0) (omega (arith, L.each t i l)) q) p.1)

  pub alike_sym : (t u : ℕ) → alike_in types t u ≡ true → alike_in types u t ≡ true
  alike_sym t u e = sym_below (suc t) t u (omega arith) e

  trans_below : (n t u v : ℕ) → t < n → alike_in types t u ≡ true → alike_in types u v ≡ true → alike_in types t v ≡ true
  trans_below zero t u v h e f = absurd (omega arith)
  trans_below (suc n) t u v h e f =
      let x = get_or types t Opaque in
      let y = get_or types u Opaque in
      let z = get_or types v Opaque in
      let p = inner_parts (alike_in types) x y (sym (alike_is t u) ∙ e) in
      let q = inner_parts (alike_in types) y z (sym (alike_is u v) ∙ f) in
      alike_is t v
      ∙ inner_true (alike_in types) x z (lists_equal (kind x) (kind z) (equal_lists (kind x) (kind y) p.0 ∙ equal_lists (kind y) (kind z) q.0))
      (pairwise-join (alike_in types) (bases x) (bases y) (bases z)
      (λ i l a b. trans_below n (get_or (bases x) i 0) (get_or (bases y) i 0) (get_or (bases z) i 0) (omega (arith, L.each t i l)) a b) p.1 q.1)

  pub alike_trans : (t u v : ℕ) → alike_in types t u ≡ true → alike_in types u v ≡ true → alike_in types t v ≡ true
  alike_trans t u v e f = trans_below (suc t) t u v (omega arith) e f
