-- What an act takes from needs that are trimmed it takes as it stands, and what it leaves is what `leaves` has: at a place within a slot the clearance's trims change nothing.
-- All of the frame is never needed (Framed), so its own void, where a function has no result, is never split; below it every slot's shape is solid.
use Prim.Native.Nat.{ℕ, ◌+◌, ◌/◌}
use native.Mathlib.Omega.{arith}
use mathlib.Core.Path.{◌≡◌, refl, sym, subst, ◌∙◌}
use mathlib.Core.Bool.{false}
use mathlib.Core.List.{List, ◌∷◌, ◌++◌}
use Rattle.part.specs.PartReq.{PartReq, all, exist, none, more}
use Rattle.clearance.specs.Shape.{member, is_void, is_whole, shape_at, split, take_out}
use Rattle.clearance.specs.Scope.{Scope, Slot, global, local, argument, result, evaluated, variable, slot, slots, kind_shape, frame, Place}
use Rattle.clearance.specs.Needs.{without}
use Rattle.clearance.specs.IsNeed.{Tidy}
use Rattle.needs.specs.Lean.{leaves, Solid}
use Rattle.needs.specs.Framed.{Framed}
use Rattle.needs.proofs.Lean.{change-is, leaves-is}
use Rattle.framed.specs.Places.{There, Placed}
use Rattle.framed.proofs.Solid.{solid, slots-solid}
use Rattle.framed.proofs.Slots.{frame-member, kind_evaluated}

module _ (S : Scope) where
  -- the map of a slot's kind is solid
  home : Slot → ℕ
  home (global g) = 0
  home (local l) = 1
  home (argument a) = 2
  home result = 3
  home (evaluated e) = 4 + e / 32

  home-solid : (x : Slot) → There S x → Solid (member (frame S) (variable (home x)))
  unfolding home kind_shape
  home-solid (global g) l = rw (frame-member S 0 (omega arith)) (slots-solid _ _ (λ j. solid S _))
  home-solid (local v) l = rw (frame-member S 1 (omega arith)) (slots-solid _ _ (λ j. solid S _))
  home-solid (argument a) l = rw (frame-member S 2 (omega arith)) (slots-solid _ _ (λ j. solid S _))
  home-solid result l = absurd l
  home-solid (evaluated e) l = rw (frame-member S (4 + e / 32) (omega arith), kind_evaluated S (e / 32)) (slots-solid _ _ (λ j. solid S _))

  pub frame-split : (n : PartReq) → Framed n → split (frame S) n ≡ n
  unfolding frame slots split
  frame-split all f = absurd f
  frame-split exist f = refl
  frame-split none f = refl
  frame-split (more i p r) f = refl

  pub frame-opens : is_whole (frame S) ≡ false
  unfolding frame slots
  frame-opens = refl

  -- at a path whose first step leads to what is solid
  without_at : (i : ℕ) (q : List ℕ) (n : PartReq) → Solid (member (frame S) i) → is_void (shape_at (frame S) (i ∷ q)) ≡ false → Tidy n (frame S) → Framed n →
      without S (i ∷ q) n ≡ leaves (frame S) n (i ∷ q)
  unfolding without take_out leaves shape_at
  without_at i q n s v h f =
      rw (frame-opens, frame-split n f)
      (change-is i (λ c. take_out (member (frame S) i) c q) (λ c. leaves (member (frame S) i) c q) (frame S) (λ c d. leaves-is q (member (frame S) i) c s v d) n h)

  slot-first : (x : Slot) (q : List ℕ) → There S x → (r : List ℕ) × (slot x ++ q ≡ variable (home x) ∷ r)
  unfolding slot home
  slot-first (global g) q l = (_, refl)
  slot-first (local v) q l = (_, refl)
  slot-first (argument a) q l = (_, refl)
  slot-first result q l = absurd l
  slot-first (evaluated e) q l = (_, refl)

  pub without-leaves : (q : Place) (n : PartReq) → Placed S q → Tidy n (frame S) → Framed n → without S q n ≡ leaves (frame S) n q
  without-leaves q n d h f =
      let z = slot-first d.home d.path d.there in
      let e : q ≡ variable (home d.home) ∷ z.0 = d.is ∙ z.1 in
      subst (λ p. without S p n ≡ leaves (frame S) n p) (sym e)
      (without_at (variable (home d.home)) z.0 n (home-solid d.home d.there) (subst (λ p. is_void (shape_at (frame S) p) ≡ false) e d.within) h f)
