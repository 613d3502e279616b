-- What stands in a slot has the shape of the slot's type, and so has a place within it: by the frame's definition, two steps down.
use Prim.Native.Nat.{ℕ, suc, ◌+◌, ◌-◌, ◌*◌, ◌/◌, ◌%◌, ◌<◌}
use native.Mathlib.Omega.{arith}
use mathlib.Core.Path.{◌≡◌, refl, sym, ap, ◌∙◌}
use mathlib.Core.Bool.{false}
use mathlib.Core.List.{List, [], ◌∷◌, ◌++◌}
use lib.ListN.{length}
use Rattle.part.specs.PartReq.{spine}
use Rattle.clearance.specs.Shape.{Shape, member, is_void, shape_at}
use Rattle.clearance.specs.Scope.{Scope, shape_of, type_of, Slot, global, local, argument, result, evaluated, variable, slot, slots, kind_shape, frame}
use Rattle.framed.specs.Places.{There, slot_type, Placed}
use Rattle.clearance.proofs.Values.{nil_right}
use Rattle.framed.proofs.Same.{member-in}
use Rattle.framed.proofs.Solid.{type_fills}

-- a path, and then another
pub shape_on : (p q : List ℕ) (t : Shape) → shape_at t (p ++ q) ≡ shape_at (shape_at t p) q
unfolding shape_at
shape_on [] q t = refl
shape_on (j ∷ p) q t = shape_on p q (member t j)

pub slots-member : (n : ℕ) (f : ℕ → Shape) (k : ℕ) → k < n → member (slots n f) (variable k) ≡ f k
unfolding slots
slots-member n f k l =
    let z : spine + k - spine ≡ k = omega arith in
    member-in spine n (λ j. f (j - spine)) (spine + k) (omega arith) (omega arith) ∙ ap f z

module _ (S : Scope) where
  -- a kind's map
  abbrev pub top : ℕ
  top = 5 + length S.function.expressions / 32

  pub frame-member : (k : ℕ) → k < top → member (frame S) (variable k) ≡ kind_shape S k
  unfolding frame
  frame-member k l = slots-member top (kind_shape S) k l

  in_slot : (k j : ℕ) → k < top → (n : ℕ) (f : ℕ → Shape) → kind_shape S k ≡ slots n f → j < n → shape_at (frame S) (variable k ∷ variable j ∷ []) ≡ f j
  unfolding shape_at
  in_slot k j l n f e m = ap (λ (s : Shape). member s (variable j)) (frame-member k l ∙ e) ∙ slots-member n f j m

  pub kind_evaluated : (b : ℕ) → kind_shape S (4 + b) ≡ slots 32 (λ e. shape_of S (type_of S (32 * b + e)))
  kind_evaluated b = let z : 4 + b ≡ suc (suc (suc (suc b))) = omega arith in ap (kind_shape S) z ∙ unfold kind_shape in refl

  pub slot-shape : (x : Slot) → There S x → shape_at (frame S) (slot x) ≡ shape_of S (slot_type S x)
  unfolding slot kind_shape
  slot-shape (global g) l = in_slot 0 g (omega arith) _ _ refl l
  slot-shape (local g) l = in_slot 1 g (omega arith) _ _ refl l
  slot-shape (argument a) l = in_slot 2 a (omega arith) _ _ refl l
  slot-shape result l = absurd l
  slot-shape (evaluated e) l =
      let z : 32 * (e / 32) + e % 32 ≡ e = omega arith in
      in_slot (4 + e / 32) (e % 32) (omega arith) _ _ (kind_evaluated (e / 32)) (omega arith) ∙ ap (λ (x : ℕ). shape_of S (type_of S x)) z

  pub slot-fills : (x : Slot) → There S x → is_void (shape_at (frame S) (slot x)) ≡ false
  slot-fills x l = rw (slot-shape x l) (type_fills S (slot_type S x))

  -- a slot is a place
  pub slot_placed : (x : Slot) → There S x → Placed S (slot x)
  slot_placed x l = record { home = x; path = []; there = l; is = sym (nil_right (slot x)); within = slot-fills x l }
