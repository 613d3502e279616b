-- What the slots hold: the list of needs slot by slot, as slots are set, copied or dropped, and as the store grows.
use Prim.Native.Nat.{ℕ, zero, suc, ◌+◌, ◌<◌, ◌≤◌}
use native.Mathlib.Omega.{arith}
use native.Mathlib.Numerals.{add-one}
use native.Mathlib.Decide.{ℕ_discrete}
use mathlib.Core.Path.{◌≡◌, refl, sym, ap, ◌∙◌}
use mathlib.Core.Bool.{true, false}
use mathlib.Core.List.{List, [], ◌∷◌, ◌++◌, map-append}
use lib.Dec.{ltb}
use lib.ListN.{length, get_or, take, set, length-set, length-map}
use lib.Seq.{length-take-le, take-suc, get_or-set_same, get_or-set_other, take-set-le, ext_get_or}
use borrow.Author.Tests.{le-ltb}
use Rattle.part.specs.PartReq.{PartReq, none}
use Rattle.part.specs.Store.{top, part, Kept}
use Rattle.part.specs.Count.{same, among}
use Rattle.part.specs.Collect.{cells_of}
use Rattle.part.proofs.Counting.{same_refl, Stands}
use Rattle.part.proofs.Distinct.{or_left, or_right_true}
use Rattle.clearance.specs.Shape.{below}
use Rattle.pass.specs.Pass.{work_bound}
use Rattle.hold.specs.Hold.{held_by, in_slot, Loose, Live, Pushed, Reach}
use Rattle.hold.proofs.Reach.{reach_is, reach_trans, reach_swap, reach_below}
use Rattle.hold.proofs.Count.{cells_below}

-- the list, slot by slot
module _ (s rs : List ℕ) (n : ℕ) where
  pub held_next : n < length rs → held_by s rs (n + 1) ≡ held_by s rs n ++ (in_slot s rs n ∷ [])
  held_next h = rw (add-one, take-suc rs n 0 h) (map-append (part s) (take n rs) (get_or rs n 0 ∷ []))

  -- one slot more
  pub held_reach : n < length rs → Reach (held_by s rs (n + 1)) (in_slot s rs n ∷ held_by s rs n)
  held_reach h = reach_trans (reach_is (held_next h)) (reach_swap (held_by s rs n) (in_slot s rs n ∷ []))

  pub held_length : n ≤ length rs → length (held_by s rs n) ≡ n
  held_length h = length-map (take n rs) (part s) ∙ length-take-le n rs h

pub held-at : (s rs : List ℕ) (n j : ℕ) → j < n → n ≤ length rs → get_or (held_by s rs n) j none ≡ in_slot s rs j
held-at s [] n j h l = absurd (omega arith)
held-at s (r ∷ rs) zero j h l = absurd (omega arith)
held-at s (r ∷ rs) (suc n) zero h l = refl
held-at s (r ∷ rs) (suc n) (suc j) h l = held-at s rs n j (omega arith) (omega arith)

-- the same slots
pub held_same : (s rs t us : List ℕ) (n : ℕ) → n ≤ length rs → n ≤ length us → ((j : ℕ) → j < n → in_slot t us j ≡ in_slot s rs j) → held_by t us n ≡ held_by s rs n
held_same s rs t us n h l f =
    let a = held_length s rs n h in
    let b = held_length t us n l in
    ext_get_or none (held_by t us n) (held_by s rs n) (b ∙ sym a)
    (λ j z. let y : j < n = omega arith in held-at t us n j y l ∙ f j y ∙ sym (held-at s rs n j y h))

-- what a slot means is kept, and a part of it adds nothing
pub slot_among : (s rs : List ℕ) (n i : ℕ) → i < n → n ≤ length rs → among (in_slot s rs i) (held_by s rs n) ≡ true
unfolding among
slot_among s [] n i h l = absurd (omega arith)
slot_among s (r ∷ rs) zero i h l = absurd (omega arith)
slot_among s (r ∷ rs) (suc n) zero h l = or_left _ _ (same_refl (part s r))
slot_among s (r ∷ rs) (suc n) (suc i) h l = or_right_true (same (in_slot s rs i) (part s r)) _ (slot_among s rs n i (omega arith) (omega arith))

module _ (s rs : List ℕ) (n i : ℕ) (h : i < n) (l : n ≤ length rs) where
  pub slot_below : (path : List ℕ) → Reach (below (in_slot s rs i) path ∷ held_by s rs n) (held_by s rs n)
  slot_below path = reach_below (in_slot s rs i) path (held_by s rs n) (slot_among s rs n i h l)

-- the needs are pieces of the store, and reach no more cells than are in use
module _ {s rs : List ℕ} {n : ℕ} (l : Loose s rs n) where
  pub loose_stands : (j : ℕ) → j < length (held_by s rs n) → Stands s (get_or (held_by s rs n) j none)
  loose_stands j h =
      let a : j < n = rw (held_length s rs n l.few) at h in
      record { number = get_or rs j 0; low = l.pieces j a; is = sym (held-at s rs n j a l.few) }

  pub loose_cells : 3 + cells_of (held_by s rs n) ≤ top s
  loose_cells = cells_below l.good (held_by s rs n) loose_stands

  -- more was made
  pub loose_kept : {t : List ℕ} → Kept s t → Loose t rs n
  loose_kept k =
      record { good = k.good; few = l.few; pieces = λ j h. omega (arith, l.pieces j h, k.tops); long = omega (arith, l.long, k.long) }

  pub slot_kept : {t : List ℕ} → Kept s t → (j : ℕ) → j < n → in_slot t rs j ≡ in_slot s rs j
  slot_kept k j h = k.same (get_or rs j 0) (l.pieces j h)

  -- fewer slots
  pub loose_less : {m : ℕ} → m ≤ n → Loose s rs m
  loose_less h =
      record { good = l.good; few = omega (arith, l.few); pieces = λ j z. l.pieces j (omega arith); long = l.long }

  -- the slot j was set
  pub loose_set : (j : ℕ) {p : ℕ} → p < top s → Loose s (set rs j p) n
  loose_set j {p} h =
      record {
        good = l.good;
        few = omega (arith, l.few, length-set rs j p);
        pieces = λ i z.
            elim (ℕ_discrete i j) [
              | yes e ↦ rw (e, get_or-set_same rs j p 0 (omega (arith, l.few))) h
              | no ne ↦ rw (get_or-set_other rs j i p 0 ne) (l.pieces i z)
            ];
        long = l.long;
      }

  -- the slot n was set, and is kept too
  pub loose_push : {p : ℕ} → n < length rs → p < top s → Loose s (set rs n p) (n + 1)
  loose_push {p} h hp =
      record {
        good = l.good;
        few = omega (arith, length-set rs n p);
        pieces = λ i z.
            elim (ℕ_discrete i n) [
              | yes e ↦ rw (e, get_or-set_same rs n p 0 h) hp
              | no ne ↦ rw (get_or-set_other rs n i p 0 ne) (l.pieces i (omega arith))
            ];
        long = l.long;
      }

module _ (s rs : List ℕ) (j p : ℕ) where
  pub slot_set : j < length rs → in_slot s (set rs j p) j ≡ part s p
  slot_set h = ap (part s) (get_or-set_same rs j p 0 h)

  pub slot_other : (i : ℕ) → (i ≡ j → ⊥) → in_slot s (set rs j p) i ≡ in_slot s rs i
  slot_other i ne = ap (part s) (get_or-set_other rs j i p 0 ne)

-- the needs after the slot n was set
pub held_push : (s rs : List ℕ) (n p : ℕ) → n < length rs → Reach (held_by s (set rs n p) (n + 1)) (part s p ∷ held_by s rs n)
held_push s rs n p h =
    rw (slot_set s rs n p h, take-set-le n rs n p (omega arith)) at (held_reach s (set rs n p) n (omega (arith, length-set rs n p)))

module _ {s rs : List ℕ} {n : ℕ} (l : Live s rs n) where
  pub live_within : ltb work_bound (cells_of (held_by s rs n)) ≡ false
  live_within = let a = loose_cells l.loose in le-ltb work_bound (cells_of (held_by s rs n)) (omega (arith, l.slim))

  pub live_less : {m : ℕ} → m ≤ n → Live s rs m
  live_less h = record { loose = loose_less l.loose h; slim = l.slim }

  pub live_set : (j : ℕ) {p : ℕ} → p < top s → Live s (set rs j p) n
  live_set j h = record { loose = loose_set l.loose j h; slim = l.slim }

-- the needs after a push
module _ {s rs : List ℕ} {n : ℕ} {p : PartReq} {t us : List ℕ} (h : n < length rs) (x : Pushed s rs n p t us true) where
  pub pushed_held : held_by t us n ≡ held_by s rs n
  pushed_held = held_same s rs t us n (omega arith) (omega (arith, x.slots)) (x.kept refl)

  pub pushed_reach : Reach (held_by t us (n + 1)) (p ∷ held_by s rs n)
  pushed_reach = rw (x.here refl, pushed_held) at (held_reach t us n (omega (arith, x.slots)))
