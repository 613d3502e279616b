-- What `clean`, `push` and `push_sum` leave, from what their calls left. The store after a collection has just the cells that are reached, so its next free number decides.
use Prim.Native.Nat.{ℕ, ◌+◌, ◌<◌, ◌≤◌}
use native.Mathlib.Omega.{arith}
use native.Mathlib.Decide.{dec_lt}
use mathlib.Core.Path.{◌≡◌, refl, sym, ap, ◌∙◌}
use mathlib.Core.Bool.{Bool, true, false, not}
use mathlib.Core.List.{List, ◌∷◌}
use lib.Dec.{ltb, leb}
use lib.ListN.{length, get_or, set, length-set}
use borrow.Author.Tests.{leb-true, le-leb, lt-leb, lt-ltb, le-ltb}
use Rattle.std.specs.Prelude.{⊤, Option, Some, None}
use Rattle.std.specs.Bool.{then_some}
use Rattle.part.specs.PartReq.{PartReq, add}
use Rattle.part.specs.Store.{top, part, Good, Kept}
use Rattle.part.specs.Collect.{cells_of}
use Rattle.part.specs.Summed.{Summed}
use Rattle.part.proofs.Distinct.{untrue}
use Rattle.pass.specs.Pass.{work_bound}
use Rattle.hold.specs.Hold.{held_by, in_slot, Loose, Live, Cleaned, Pushed}
use Rattle.hold.specs.Fits.{fits}
use Rattle.hold.proofs.Reach.{reach_cells}
use Rattle.hold.proofs.Count.{short_many}
use Rattle.hold.proofs.Slots.{held_same, held_push, slot_set, slot_other, loose_stands, loose_cells, loose_kept, slot_kept, loose_push}

-- a test, as the code answers it
pub fits_some : (b : Bool) {r : Option ⊤} → r ≡ then_some b tt → b ≡ fits r
fits_some true e = rw e refl
fits_some false e = rw e refl

-- the test
within_test : (x y : ℕ) → y ≡ 3 + x → leb y (3 + work_bound) ≡ not (ltb work_bound x)
within_test x y e =
    elim (dec_lt work_bound x) [
      | yes h ↦ rw (lt-ltb work_bound x h) (lt-leb y (3 + work_bound) (omega arith))
      | no h ↦ let z : x ≤ work_bound = omega arith in rw (le-ltb work_bound x z) (le-leb y (3 + work_bound) (omega arith))
    ]

-- `push`
module _ {s rs : List ℕ} {n p : ℕ} (l : Loose s rs n) (h : n < length rs) (hp : p < top s) where
  pub pushed_once : top s ≤ 3 + work_bound → Pushed s rs n (part s p) s (set rs n p) true
  pushed_once z =
      let k = loose_push l h hp in
      let a = loose_cells k in
      let b = reach_cells (held_push s rs n p h) in
      record {
        cells = refl;
        slots = length-set rs n p;
        live = λ e. record { loose = k; slim = z };
        kept = λ e j y. slot_other s rs n p j (λ d. omega arith);
        here = λ e. slot_set s rs n p h;
        is = ap not (sym (le-ltb work_bound (cells_of (part s p ∷ held_by s rs n)) (omega arith)));
      }

  pub pushed_cleaned : {t us : List ℕ} → Cleaned s (set rs n p) (n + 1) t us → Pushed s rs n (part s p) t us (leb (top t) (3 + work_bound))
  pushed_cleaned {t} {us} d = record {
    cells = d.cells;
    slots = d.slots ∙ length-set rs n p;
    live = λ e. record { loose = d.loose; slim = leb-true (top t) (3 + work_bound) e };
    kept = λ e j y. d.same j (omega arith) ∙ slot_other s rs n p j (λ z. omega arith);
    here = λ e. d.same n (omega arith) ∙ slot_set s rs n p h;
    is = within_test (cells_of (part s p ∷ held_by s rs n)) (top t) (d.used ∙ ap (λ k. 3 + k) (reach_cells (held_push s rs n p h)));
  }

-- t and us hold in their first n slots what s and rs do
record Still (s rs : List ℕ) (n : ℕ) (t us : List ℕ) : Type 0 where
  cells : length t ≡ length s
  slots : length us ≡ length rs
  same : (j : ℕ) → j < n → in_slot t us j ≡ in_slot s rs j

still_pushed : {s rs t us u vs : List ℕ} {n : ℕ} {p q : PartReq} {r : Bool} → n ≤ length rs → Still s rs n t us → p ≡ q → Pushed t us n p u vs r → Pushed s rs n q u vs r
still_pushed {s} {rs} {t} {us} {n = n} h x e d = record {
  cells = d.cells ∙ x.cells;
  slots = d.slots ∙ x.slots;
  live = d.live;
  kept = λ y j z. d.kept y j z ∙ x.same j z;
  here = λ y. d.here y ∙ e;
  is = rw (← e, ← held_same s rs t us n h (omega (arith, x.slots)) x.same) d.is;
}

-- what was made beside the slots, and then pushed
made_still : {s rs t : List ℕ} {n : ℕ} → Loose s rs n → Kept s t → Still s rs n t rs
made_still l k = record { cells = k.long; slots = refl; same = slot_kept l k }

pub pushed_made : {s rs t u vs : List ℕ} {n : ℕ} {p q : PartReq} {r : Bool} → Loose s rs n → Kept s t → p ≡ q → Pushed t rs n p u vs r → Pushed s rs n q u vs r
pushed_made l k e d = still_pushed l.few (made_still l k) e d

-- `push_sum`: the first sum
module _ {s rs : List ℕ} {n i j : ℕ} (l : Live s rs n) (h : n < length rs) (hi : (i < n) × (j < n)) where
  pub sum_asks : Good s × ((get_or rs i 0 < top s) × (get_or rs j 0 < top s))
  sum_asks = (l.loose.good, (l.loose.pieces i hi.0, l.loose.pieces j hi.1))

  abbrev both : PartReq
  both = add (in_slot s rs i) (in_slot s rs j)

  module _ {t : List ℕ} {a : Option ℕ} (m : Summed s t both a) where
    first_still : Still s rs n t rs
    first_still = made_still l.loose m.kept

    pub first_asks : {k : ℕ} → a ≡ Some k → Loose t rs n × ((n < length rs) × (k < top t))
    first_asks e = (loose_kept l.loose m.kept, (h, (m.done _ e).0))

    pub first_pushed : {u vs : List ℕ} {k : ℕ} {r : Bool} → a ≡ Some k → Pushed t rs n (part t k) u vs r → Pushed s rs n both u vs r
    first_pushed e d = pushed_made l.loose m.kept (m.done _ e).1 d

    -- after a collection
    pub clean_again : Loose t rs n
    clean_again = loose_kept l.loose m.kept

    module _ {u vs : List ℕ} (c : Cleaned t rs n u vs) where
      pub again_asks : Good u × ((get_or vs i 0 < top u) × (get_or vs j 0 < top u))
      again_asks = (c.loose.good, (c.loose.pieces i hi.0, c.loose.pieces j hi.1))

      same_sum : add (in_slot u vs i) (in_slot u vs j) ≡ both
      same_sum = rw (c.same i hi.0 ∙ first_still.same i hi.0, c.same j hi.1 ∙ first_still.same j hi.1)

      module _ {w : List ℕ} {o : Option ℕ} (b : Summed u w (add (in_slot u vs i) (in_slot u vs j)) o) where
        second_still : Still s rs n w vs
        second_still = record {
          cells = b.kept.long ∙ c.cells ∙ m.kept.long;
          slots = c.slots;
          same = λ x y. slot_kept c.loose b.kept x y ∙ c.same x y ∙ first_still.same x y;
        }

        pub second_asks : {k : ℕ} → o ≡ Some k → Loose w vs n × ((n < length vs) × (k < top w))
        second_asks e = (loose_kept c.loose b.kept, (omega (arith, c.slots), (b.done _ e).0))

        pub second_pushed : {x ys : List ℕ} {k : ℕ} {r : Bool} → o ≡ Some k → Pushed w vs n (part w k) x ys r → Pushed s rs n both x ys r
        second_pushed e d = still_pushed l.loose.few second_still ((b.done _ e).1 ∙ same_sum) d

        -- no room for it: with what is kept it reaches all cells of the full store
        pub second_none : o ≡ None → Pushed s rs n both w vs false
        second_none e =
            let used : top u ≡ 3 + cells_of (held_by u vs n) =
            c.used ∙ ap (λ z. 3 + cells_of z) (sym (held_same t rs u vs n l.loose.few c.loose.few c.same)) in
            let held : held_by u vs n ≡ held_by s rs n =
            held_same s rs u vs n l.loose.few c.loose.few (λ x y. c.same x y ∙ first_still.same x y) in
            let many = rw (same_sum, held) at (short_many c.loose.good (held_by u vs n) (loose_stands c.loose) used b) in
            let long = second_still.cells in
            let z = b.short e in
            record {
              cells = long;
              slots = c.slots;
              live = λ y. untrue y;
              kept = λ y. untrue y;
              here = λ y. untrue y;
              is = ap not (sym (lt-ltb work_bound (cells_of (both ∷ held_by s rs n)) (omega (arith, l.loose.long))));
            }
