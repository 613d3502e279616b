-- An act, from what its parts left. What is needed of its place stands in the slot n, which adds no cells: it is a part of the needs at hand (`taken_reach`). Or nothing is taken out, and the
-- needs are copied there. Then come its asks, with the needs after the act kept, and what they leave goes to the slot of the needs at hand.
use Prim.Native.Nat.{ℕ, ◌+◌, ◌-◌, ◌<◌}
use native.Mathlib.Omega.{arith}
use mathlib.Core.Path.{◌≡◌, refl, sym, ap, ◌∙◌}
use mathlib.Core.Bool.{Bool, true, false, not}
use mathlib.Core.List.{List, ◌∷◌, ◌++◌}
use lib.Dec.{ltb}
use lib.ListN.{length, get_or, set, length-set}
use Rattle.std.specs.Prelude.{Option, None, Some, is_some}
use Rattle.part.specs.PartReq.{PartReq}
use Rattle.part.specs.Store.{top, part, Made}
use Rattle.part.proofs.Distinct.{untrue}
use Rattle.clearance.specs.Shape.{some}
use Rattle.clearance.specs.Scope.{Scope, Place, frame}
use Rattle.clearance.specs.Tree.{Act}
use Rattle.clearance.specs.Needs.{Ask, overlap, without}
use Rattle.judge.specs.Given.{scope_at}
use Rattle.needs.specs.Lean.{leaves}
use Rattle.pass.specs.Pass.{work_bound, Carried, Passed, on, ◌>>=◌, within, asking_all, act_asks, act_leaves, acting}
use Rattle.framed.specs.Kept.{Kept}
use Rattle.framed.proofs.Takes.{without-leaves}
use Rattle.hold.specs.Hold.{held_by, in_slot, Loose, Pushed, Reach}
use Rattle.hold.proofs.Reach.{reach_is, reach_sym, reach_trans, reach_cons, reach_cells}
use Rattle.hold.proofs.Slots.{held_reach, held_same, slot_below, loose_push, loose_kept, live_less, live_set, slot_set, slot_other, held_push}
use Rattle.hold.proofs.Pushes.{pushed_made}
use Rattle.forms.specs.Frames.{place_cells}
use Rattle.standing.specs.Slots.{Ready}
use Rattle.standing.specs.Standing.{passed_by, Stepped}
use Rattle.standing.proofs.Readies.{ready_open}
use Rattle.standing.proofs.Taken.{within-fits}
use Rattle.ends.proofs.Merges.{by_test, ready_kept, reach_double}
use Rattle.quiet.specs.Acts.{Overlap}
use Rattle.acts.specs.Acts.{act_of, leaving, Acted, TakeGiven, TakenOut}
use Rattle.operands.specs.AsksAll.{AsksAll}

pub hand_kept : {S : Scope} {s rs : List ℕ} {n : ℕ} → Ready S s rs n → Kept S (in_slot s rs (n - 1))
hand_kept {n = n} d = let h = d.high in d.needs (n - 1) (omega arith) (λ e. omega arith)

-- a copy of the needs at hand above them
pub above_ready : {S : Scope} {s rs : List ℕ} {n : ℕ} → Ready S s rs n → n < length rs → Ready S s (set rs n (get_or rs (n - 1) 0)) (n + 1)
above_ready {rs = rs} {n = n} d h = ready_open d (get_or rs (n - 1) 0) (d.live.loose.pieces (n - 1) (omega (arith, d.high))) (hand_kept d) h

-- A place is taken out
module _ {bytes tab : List ℕ} {f : ℕ} {s rs : List ℕ} {n : ℕ} {q : Place} {a : ℕ} (g : TakeGiven bytes tab f s rs n q a) where
  abbrev S : Scope
  S = scope_at bytes tab f

  abbrev hand : PartReq
  hand = in_slot s rs (n - 1)

  out_is : leaves (frame S) hand q ≡ without S q hand
  out_is = let k = hand_kept g.ready in sym (without-leaves S q hand g.placed k.need.tidy k.framed)

  marked_loose : Loose s (set rs n a) (n + 1)
  marked_loose = loose_push g.ready.live.loose (omega (arith, g.spare)) g.piece.piece

  module _ {t : List ℕ} {l : ℕ} (m : Made s t (leaves (frame S) hand q) (place_cells q) l) where
    pub push_asks : Loose t (set rs n a) (n + 1) × ((n + 1 < length (set rs n a)) × (l < top t))
    push_asks = (loose_kept marked_loose m.kept, (omega (arith, g.spare, length-set rs n a), m.piece))

    module _ {u vs : List ℕ} {r : Bool} (w : Pushed t (set rs n a) (n + 1) (part t l) u vs r) where
      pushed : Pushed s (set rs n a) (n + 1) (without S q hand) u vs r
      pushed = pushed_made marked_loose m.kept (m.is ∙ out_is) w

      -- what is needed of the place adds no cells
      marked_reach : Reach (held_by s (set rs n a) (n + 1)) (held_by s rs n)
      marked_reach =
          let few = g.ready.live.loose.few in
          reach_trans (held_push s rs n a (omega (arith, g.spare))) (rw g.piece.is (slot_below s rs n (n - 1) (omega (arith, g.ready.high)) few q))

      pub taken_out : TakenOut S q s rs n u vs r
      taken_out =
          let e : (n + 1) + 1 ≡ n + 2 = omega arith in
          record {
            cells = pushed.cells;
            slots = pushed.slots ∙ length-set rs n a;
            live = λ z. rw e at (pushed.live z);
            kept = λ z j h. pushed.kept z j (omega arith) ∙ slot_other s rs n a j (λ i. omega arith);
            part = λ z. pushed.kept z n (omega arith) ∙ (slot_set s rs n a (omega (arith, g.spare)) ∙ g.piece.is);
            hand = pushed.here;
            is = pushed.is ∙ ap (λ (k : ℕ). not (ltb work_bound k)) (reach_cells (reach_cons (without S q hand) marked_reach));
          }

-- Memory with m slots, of which the last has the needs l that an act leaves: the others reach what was reached.
pub record Opened (l : PartReq) (s rs : List ℕ) (n : ℕ) (t us : List ℕ) (m : ℕ) (r : Bool) : Type 0 where
  pub cells : length t ≡ length s
  pub slots : length us ≡ length rs
  pub kept : r ≡ true → (j : ℕ) → j < n → in_slot t us j ≡ in_slot s rs j
  pub reach : r ≡ true → Reach (held_by t us (m - 1)) (held_by s rs n)
  pub is : (aside : List PartReq) (c : Carried) → Reach (held_by s rs n) (in_slot s rs (n - 1) ∷ (aside ++ c.table)) →
      within (in_slot s rs (n - 1) ∷ aside) l c ≡ passed_by r c (in_slot t us (m - 1))

hand_on : (c : Carried) (b : Bool) (p m : PartReq) → (b ≡ true → m ≡ p) → passed_by b c p ≡ passed_by b c m
hand_on c true p m f = ap (on c) (sym (f refl))
hand_on c false p m f = refl

module _ {S : Scope} {s rs : List ℕ} {n : ℕ} (d : Ready S s rs n) where
  abbrev after : PartReq
  after = in_slot s rs (n - 1)

  -- with the needs at hand, the slots reach what is kept and them
  with_hand : {l : List PartReq} → Reach (held_by s rs (n - 1)) l → Reach (held_by s rs n) (in_slot s rs (n - 1) ∷ l)
  with_hand h =
      let e : (n - 1) + 1 ≡ n = omega (arith, d.high) in
      reach_trans (rw e at (held_reach s rs (n - 1) (omega (arith, d.high, d.live.loose.few)))) (reach_cons (in_slot s rs (n - 1)) h)

  -- by what was taken out
  module _ {q : Place} {t us : List ℕ} {r : Bool} (w : TakenOut S q s rs n t us r) where
    taken_reach : r ≡ true → Reach (held_by t us (n + 1)) (held_by s rs n)
    taken_reach z =
        let few = (w.live z).loose.few in
        let h : held_by t us n ≡ held_by s rs n = held_same s rs t us n (omega (arith, w.slots)) (omega arith) (w.kept z) in
        reach_trans (rw (w.part z, h) at (held_reach t us n (omega arith)))
        (slot_below s rs n (n - 1) (omega (arith, d.high)) d.live.loose.few q)

    pub taken_opened : Opened (without S q after) s rs n t us (n + 2) r
    taken_opened =
        let i : (n + 2) - 1 ≡ n + 1 = omega arith in
        record {
          cells = w.cells;
          slots = w.slots;
          kept = w.kept;
          reach = λ z. rw i (taken_reach z);
          is = λ aside c h.
              rw i
              (by_test (after ∷ aside) (without S q after) c (w.is ∙ ap (λ (k : ℕ). not (ltb work_bound k)) (reach_cells (reach_cons (without S q after) h)))
              ∙ hand_on c r (without S q after) (in_slot t us (n + 1)) w.hand);
        }

  -- by a copy, where nothing is taken out
  pub copied_opened : n < length rs → Opened after s rs n s (set rs n (get_or rs (n - 1) 0)) (n + 1) true
  copied_opened l =
      let i : (n + 1) - 1 ≡ n = omega arith in
      let a = get_or rs (n - 1) 0 in
      let k : (j : ℕ) → j < n → in_slot s (set rs n a) j ≡ in_slot s rs j = λ j h. slot_other s rs n a j (λ z. omega arith) in
      record {
        cells = refl;
        slots = length-set rs n a;
        kept = λ z. k;
        reach = λ z. rw i (reach_is (held_same s rs s (set rs n a) n (omega arith) (omega (arith, length-set rs n a)) k));
        is = λ aside c h.
            rw i
            (within-fits (after ∷ aside) d.live (reach_trans h (reach_sym (reach_double after (aside ++ c.table)))) ∙ ap (on c) (sym (slot_set s rs n a l)));
      }

  -- what was opened, and asked
  module _ {l : PartReq} {t us : List ℕ} {m : ℕ} {r : Bool} (o : Opened l s rs n t us m r) (xs : List Ask) where
    -- past the bound at once
    pub opened_full : r ≡ false → Stepped S (leaving S l xs) s rs n t us false
    unfolding leaving
    opened_full e = record {
      cells = o.cells;
      slots = o.slots;
      ready = λ z. untrue z;
      kept = λ z. untrue z;
      is = λ aside c h. ap (λ (y : Passed). y >>= λ i p. asking_all S (after ∷ aside) xs p i) (o.is aside c (with_hand h) ∙ ap (λ (b : Bool). passed_by b c (in_slot t us (m - 1))) e);
    }

    module _ (e : r ≡ true) (more : n < m) {v ws : List ℕ} {b : Bool} (a : AsksAll S xs t us m v ws b) where
      left_is : (aside : List PartReq) (c : Carried) → Reach (held_by s rs (n - 1)) (aside ++ c.table) → leaving S l xs aside after c ≡ passed_by b c (in_slot v ws (m - 1))
      unfolding leaving
      left_is aside c h =
          ap (λ (y : Passed). y >>= λ i p. asking_all S (after ∷ aside) xs p i) (o.is aside c (with_hand h) ∙ ap (λ (k : Bool). passed_by k c (in_slot t us (m - 1))) e)
          ∙ a.is (after ∷ aside) c (reach_trans (o.reach e) (with_hand h))

      -- past it with an ask
      pub asked_full : b ≡ false → Stepped S (leaving S l xs) s rs n v ws false
      asked_full z = record {
        cells = a.cells ∙ o.cells;
        slots = a.slots ∙ o.slots;
        ready = λ y. untrue y;
        kept = λ y. untrue y;
        is = λ aside c h. left_is aside c h ∙ ap (λ (k : Bool). passed_by k c (in_slot v ws (m - 1))) z;
      }

      -- within it: what is left goes to the slot of the needs at hand
      module _ (z : b ≡ true) (i : ℕ) (last : i + 1 ≡ m) where
        pub copy_asks : (i < length ws) × (n - 1 < length ws)
        copy_asks = let few = (a.live z).loose.few in (omega arith, omega arith)

        pub left : {ys : List ℕ} → ys ≡ set ws (n - 1) (get_or ws i 0) → Stepped S (leaving S l xs) s rs n v ys true
        left y =
            let high = d.high in
            let from = get_or ws i 0 in
            let lv = a.live z in
            let k : m - 1 ≡ i = omega arith in
            let here : in_slot v (set ws (n - 1) from) (n - 1) ≡ in_slot v ws i = slot_set v ws (n - 1) from copy_asks.1 in
            let same : (j : ℕ) → j + 1 < n → in_slot v (set ws (n - 1) from) j ≡ in_slot s rs j =
            λ j h. slot_other v ws (n - 1) from j (λ g. omega arith) ∙ (a.kept z j (omega arith) ∙ o.kept e j (omega arith)) in
            rw y
            record {
              cells = a.cells ∙ o.cells;
              slots = length-set ws (n - 1) from ∙ (a.slots ∙ o.slots);
              ready = λ _. ready_kept d (omega arith) high (live_set (live_less lv (omega arith)) (n - 1) (lv.loose.pieces i (omega arith))) same (rw here (rw k at (a.need z)));
              kept = λ _. same;
              is = λ aside c h. (rw k at (left_is aside c h)) ∙ (ap (λ (g : Bool). passed_by g c (in_slot v ws i)) z ∙ ap (on c) (sym here));
            }

  -- An act that gives nothing that is needed
  acted_idle : (x : Act) → some (overlap S x after) ≡ false → Stepped S (act_of S x) s rs n s rs true
  unfolding acting
  acted_idle x e = record { cells = refl; slots = refl; ready = λ z. d; kept = λ z j h. refl; is = λ aside c h. rw e }

-- one that does
pub acted : {S : Scope} {s rs : List ℕ} {n : ℕ} {l : PartReq} {xs : List Ask} {t us : List ℕ} {r : Bool} (x : Act) → some (overlap S x (in_slot s rs (n - 1))) ≡ true →
    act_leaves S x (in_slot s rs (n - 1)) ≡ l → act_asks S x (overlap S x (in_slot s rs (n - 1))) ≡ xs → Stepped S (leaving S l xs) s rs n t us r → Stepped S (act_of S x) s rs n t us r
unfolding acting leaving
acted x w e f d = record {
  cells = d.cells;
  slots = d.slots;
  ready = d.ready;
  kept = d.kept;
  is = λ aside c h. rw (w, e, f) (d.is aside c h);
}

-- what the code finds of an act that gives nothing that is needed, and of one that does
module _ {S : Scope} {x : Act} {s : List ℕ} {m : PartReq} {before behind : List ℕ} {o : Option ℕ} (w : Overlap S x s m before behind o) where
  pub needs_some : {a : ℕ} → o ≡ Some a → some (overlap S x m) ≡ true
  needs_some e = sym w.is ∙ ap is_some e

  needs_none : o ≡ None → some (overlap S x m) ≡ false
  needs_none e = sym w.is ∙ ap is_some e

pub acted_none : {S : Scope} {x : Act} {s rs : List ℕ} {n : ℕ} {before behind : List ℕ} {o : Option ℕ} → Ready S s rs n → Overlap S x s (in_slot s rs (n - 1)) before behind o →
    o ≡ None → Acted S x s rs n s rs before behind true
acted_none {x = x} d w e = record { step = acted_idle d x (needs_none w e); long = w.long }
