-- A store, from what its parts left: without a dynamic index by its place (`known_left`), with one by its indexes and its value (`somewhere_left`), and what it is by definition (`store-acted`).
use Prim.Native.Nat.{ℕ, ◌+◌, ◌-◌, ◌<◌}
use native.Mathlib.Omega.{arith}
use mathlib.Core.Path.{◌≡◌, refl, ◌∙◌}
use mathlib.Core.Bool.{Bool, true, false}
use mathlib.Core.List.{List, [], ◌∷◌, map}
use lib.ListN.{length, get_or, set, length-set}
use Rattle.std.specs.Prelude.{Option, Some}
use Rattle.part.specs.PartReq.{PartReq}
use Rattle.part.specs.Store.{part}
use Rattle.part.proofs.Pieces.{part-0}
use Rattle.module.specs.Module.{ExpressionHandle}
use Rattle.clearance.specs.Shape.{some, below}
use Rattle.clearance.specs.Scope.{Scope, Place, Path, path_of, target, is_path}
use Rattle.clearance.specs.Tree.{store}
use Rattle.clearance.specs.Needs.{of_value, ask_whole, overlap, without}
use Rattle.clearance.specs.Judged.{is_value, fits_statement}
use Rattle.clearance.proofs.Small.{both_true}
use Rattle.judge.specs.Given.{scope_at}
use Rattle.pass.specs.Pass.{store_asks, store_leaves, act_asks, act_leaves}
use Rattle.asked.specs.Within.{Within}
use Rattle.asked.proofs.Asks.{each_more, each_none, whole_within, wholes_within}
use Rattle.asked.proofs.Acts.{store_within, store_tidy, store-overlap}
use Rattle.framed.specs.Kept.{AsksFine}
use Rattle.framed.proofs.Paths.{path_indexes}
use Rattle.framed.proofs.Kept.{kept_without, overlap-ascends}
use Rattle.hold.specs.Hold.{in_slot}
use Rattle.standing.specs.Slots.{Ready}
use Rattle.standing.specs.Standing.{Stepped}
use Rattle.place.specs.Target.{any, Pointer}
use Rattle.place.specs.declared.pointer.PointerExpression.{PointerExpression}
use Rattle.place.specs.Steps.{scope_in, indexes_in, indexes_of}
use Rattle.asking.specs.Asks.{Asks, step_of, ValueGiven}
use Rattle.quiet.specs.Acts.{Needing, Overlap}
use Rattle.acts.specs.Acts.{ActGiven, StoreOf, act_of, leaving, TakenOut, PlaceGiven, SomewhereGiven}
use Rattle.operands.specs.AsksAll.{ListGiven, AsksAll}
use Rattle.operands.proofs.Lists.{given_right, all_full, list_next, list_then, value_given, value_all, all_piece}
use Rattle.acts.proofs.Places.{world_few, target-rooted, target-short, target-placed}
use Rattle.acts.proofs.Steps.{hand_kept, above_ready, taken_opened, copied_opened, opened_full, asked_full, left, acted}

-- What is needed of the place is asked of the value
module _ {bytes tab : List ℕ} {f : ℕ} {s rs : List ℕ} {n : ℕ} {q : Place} {a v : ℕ} (g : PlaceGiven bytes tab f s rs n q a v) where
  abbrev S : Scope
  S = scope_at bytes tab f

  abbrev needed : PartReq
  needed = below (in_slot s rs (n - 1)) q

  module _ {t us : List ℕ} {r : Bool} (w : TakenOut S q s rs n t us r) where
    pub known_full : r ≡ false → Stepped S (leaving S (without S q (in_slot s rs (n - 1))) (of_value v needed ∷ [])) s rs n t us false
    known_full e = opened_full g.take.ready (taken_opened g.take.ready w) _ e

    module _ (e : r ≡ true) where
      known_list : ListGiven S (of_value v needed ∷ []) t us (n + 2)
      known_list =
          let i : (n + 2) - 1 ≡ n + 1 = omega arith in
          record {
            read = g.read;
            judged = g.judged;
            live = w.live e;
            two = omega arith;
            spare = omega (arith, g.take.spare, w.slots);
            need = rw (i, w.hand e) (kept_without S q (in_slot s rs (n - 1)) (hand_kept g.take.ready));
            within = each_more g.within each_none;
            fine = (g.ascends, tt);
          }

      pub known_given : ValueGiven S t us (n + 2) v (get_or us n 0)
      known_given = value_given known_list refl (get_or us n 0) (w.part e) ((w.live e).loose.pieces n (omega arith))

      module _ {u ws : List ℕ} {b : Bool} (d : Asks S (step_of S (of_value v (in_slot t us n))) t us (n + 2) u ws b) where
        asked : AsksAll S (of_value v needed ∷ []) t us (n + 2) u ws b
        asked = value_all known_list refl (get_or us n 0) (w.part e) d

        pub value_full : b ≡ false → Stepped S (leaving S (without S q (in_slot s rs (n - 1))) (of_value v needed ∷ [])) s rs n u ws false
        value_full z = asked_full g.take.ready (taken_opened g.take.ready w) _ e (omega arith) asked z

        pub known_left : b ≡ true → {ys : List ℕ} → ys ≡ set ws (n - 1) (get_or ws (n + 1) 0) →
            Stepped S (leaving S (without S q (in_slot s rs (n - 1))) (of_value v needed ∷ [])) s rs n u ys true
        known_left z y = left g.take.ready (taken_opened g.take.ready w) _ e (omega arith) asked z (n + 1) (omega arith) y

-- Value and indexes are asked whole

whole_fine : (xs : List ExpressionHandle) → AsksFine (map ask_whole xs)
whole_fine [] = tt
whole_fine (x ∷ xs) = (tt, whole_fine xs)

module _ (p : PointerExpression) {s rs : List ℕ} {n v : ℕ} (g : SomewhereGiven (scope_in p) s rs n v) where
  pub same_asks : (n - 1 < length rs) × (n < length rs)
  same_asks = (omega (arith, g.spare), omega (arith, g.spare))

  same_ready : Ready (scope_in p) s (set rs n (get_or rs (n - 1) 0)) (n + 1)
  same_ready = above_ready g.ready same_asks.1

  -- what is asked lies within its types
  whole_list : ListGiven (scope_in p) (ask_whole v ∷ map ask_whole (indexes_in p)) s (set rs n (get_or rs (n - 1) 0)) (n + 1)
  whole_list =
      let R = g.read in
      let there = p.pointer.there in
      record {
        read = R;
        judged = g.judged;
        live = same_ready.live;
        two = omega (arith, g.ready.high);
        spare = omega (arith, g.spare, length-set rs n (get_or rs (n - 1) 0));
        need = hand_kept same_ready;
        within = each_more (whole_within (scope_in p) R v g.value)
            (wholes_within (scope_in p) R p.e.0 (indexes_in p) (omega arith) (path_indexes (scope_in p) R g.judged p.e.0 there p.pointer.path));
        fine = (tt, whole_fine (indexes_in p));
      }

  pub indexes_given : {ys : List ℕ} → ys ≡ set rs n (get_or rs (n - 1) 0) → ListGiven (scope_in p) (map ask_whole (indexes_in p)) s ys (n + 1)
  indexes_given y = rw y (given_right (ask_whole v ∷ []) whole_list)

  module _ {ys : List ℕ} (y : ys ≡ set rs n (get_or rs (n - 1) 0)) {t us : List ℕ} {r : Bool} (d : AsksAll (scope_in p) (map ask_whole (indexes_in p)) s ys (n + 1) t us r) where
    pub indexes_full : r ≡ false → Stepped (scope_in p) (leaving (scope_in p) (in_slot s rs (n - 1)) (ask_whole v ∷ map ask_whole (indexes_in p))) s rs n t us false
    indexes_full e = asked_full g.ready (copied_opened g.ready same_asks.1) _ refl (omega arith) (all_full (rw y at d) (ask_whole v ∷ []) e) refl

    module _ (e : r ≡ true) where
      value_list : ListGiven (scope_in p) (ask_whole v ∷ []) t us (n + 1)
      value_list = list_next (rw y at d) e [] whole_list

      pub stored_given : ValueGiven (scope_in p) t us (n + 1) v 0
      stored_given = value_given value_list refl 0 (part-0 t) (all_piece value_list)

      module _ {u ws : List ℕ} {b : Bool} (a : Asks (scope_in p) (step_of (scope_in p) (of_value v (part t 0))) t us (n + 1) u ws b) where
        asked_both : AsksAll (scope_in p) (ask_whole v ∷ map ask_whole (indexes_in p)) s (set rs n (get_or rs (n - 1) 0)) (n + 1) u ws b
        asked_both = list_then (rw y at d) e whole_list (value_all value_list refl 0 (part-0 t) a)

        pub stored_full : b ≡ false → Stepped (scope_in p) (leaving (scope_in p) (in_slot s rs (n - 1)) (ask_whole v ∷ map ask_whole (indexes_in p))) s rs n u ws false
        stored_full z = asked_full g.ready (copied_opened g.ready same_asks.1) _ refl (omega arith) asked_both z

        pub somewhere_left : b ≡ true → {zs : List ℕ} → zs ≡ set ws (n - 1) (get_or ws n 0) →
            Stepped (scope_in p) (leaving (scope_in p) (in_slot s rs (n - 1)) (ask_whole v ∷ map ask_whole (indexes_in p))) s rs n u zs true
        somewhere_left z h = left g.ready (copied_opened g.ready same_asks.1) _ refl (omega arith) asked_both z n refl h

-- What a store is by definition

none_of : (is : List ℕ) → any is ≡ false → is ≡ []
none_of [] e = refl
none_of (i ∷ is) e = let z : ◌≡◌ {A = ℕ} 0 1 = cc in absurd (omega arith)

some_leaves : (S : Scope) (p : Path) (is : List ExpressionHandle) (n : PartReq) → any is ≡ true → store_leaves S p is n ≡ n
unfolding store_leaves
some_leaves S p [] n e = let z : ◌≡◌ {A = ℕ} 0 1 = cc in absurd (omega arith)
some_leaves S p (i ∷ is) n e = refl

some_asks : (is : List ExpressionHandle) (v : ExpressionHandle) (a : PartReq) → any is ≡ true → store_asks is v a ≡ ask_whole v ∷ map ask_whole is
unfolding store_asks
some_asks [] v a e = let z : ◌≡◌ {A = ℕ} 0 1 = cc in absurd (omega arith)
some_asks (i ∷ is) v a e = refl

module _ {bytes tab : List ℕ} {f : ℕ} {types alike : List ℕ} {paths : List Bool} {s rs path : List ℕ} {n : ℕ} (g : ActGiven bytes tab f types alike paths s rs path n) where
  -- the needs at hand, as a piece
  pub act_needing : Needing bytes tab f types alike paths s (get_or rs (n - 1) 0)
  act_needing = record {
    world = g.world;
    store = g.ready.live.loose.good;
    there = g.ready.live.loose.pieces (n - 1) (omega (arith, g.ready.high));
    kept = hand_kept g.ready;
  }

  module _ {p v : ExpressionHandle} (h : StoreOf (scope_at bytes tab f) p v) where
    pub store_pointer : Pointer bytes tab f p
    unfolding fits_statement
    store_pointer = record {
      read = g.world.given.of.read;
      function = g.world.given.of.there;
      there = h.pointer;
      path = (both_true (is_path (scope_at bytes tab f) p) _ (both_true (is_value (scope_at bytes tab f) v) _ h.fits).1).0;
    }

    -- what is needed of its place
    needs_below : overlap (scope_at bytes tab f) (store p v) (in_slot s rs (n - 1)) ≡ below (in_slot s rs (n - 1)) (target (path_of (scope_at bytes tab f) p))
    needs_below = store-overlap (scope_at bytes tab f) g.world.read g.world.judged p v h.pointer h.value h.fits (in_slot s rs (n - 1)) (hand_kept g.ready).need.tidy

    needs_within : any (indexes_of bytes tab f p) ≡ false → Within (scope_at bytes tab f) (of_value v (below (in_slot s rs (n - 1)) (target (path_of (scope_at bytes tab f) p))))
    unfolding store_asks
    needs_within e =
        let z = store_within (scope_at bytes tab f) g.world.read g.world.judged p v h.pointer h.value h.fits (below (in_slot s rs (n - 1)) (target (path_of (scope_at bytes tab f) p)))
        (store_tidy (scope_at bytes tab f) g.world.read g.world.judged p v h.pointer h.value h.fits (in_slot s rs (n - 1)) (hand_kept g.ready).need.tidy) in
        (rw (none_of (indexes_of bytes tab f p) e) at z).each 0 (ask_whole v) (omega arith)

    module _ {before after : List ℕ} {o : Option ℕ} (w : Overlap (scope_at bytes tab f) (store p v) s (in_slot s rs (n - 1)) before after o) {a : ℕ} (found : o ≡ Some a) where
      pub known_asks : {q : Place} → q ≡ target (path_of (scope_at bytes tab f) p) → any (indexes_of bytes tab f p) ≡ false → PlaceGiven bytes tab f s rs n q a v
      known_asks y e =
          let i = store_pointer.path in
          let l = h.pointer in
          let x = rw found at w.piece in
          rw y
          record {
            take = record {
              ready = g.ready;
              spare = g.spare;
              piece = record { piece = x.piece; is = x.is ∙ needs_below };
              rooted = target-rooted (scope_at bytes tab f) p i;
              placed = target-placed g.world p l i;
              short = omega (arith, target-short (scope_at bytes tab f) p i, world_few g.world);
            };
            read = g.world.read;
            judged = g.world.judged;
            ascends = rw needs_below at (overlap-ascends (scope_at bytes tab f) (store p v) (in_slot s rs (n - 1)) (hand_kept g.ready).need.ascends);
            within = needs_within e;
          }

    pub somewhere_asks : SomewhereGiven (scope_at bytes tab f) s rs n v
    somewhere_asks = record {
      read = g.world.read;
      judged = g.world.judged;
      ready = g.ready;
      spare = g.spare;
      value = h.value;
    }

    module _ {t us : List ℕ} {r : Bool} (w : some (overlap (scope_at bytes tab f) (store p v) (in_slot s rs (n - 1))) ≡ true) where
      pub known_acted : {q : Place} → q ≡ target (path_of (scope_at bytes tab f) p) → any (indexes_of bytes tab f p) ≡ false →
          Stepped (scope_at bytes tab f) (leaving (scope_at bytes tab f) (without (scope_at bytes tab f) q (in_slot s rs (n - 1))) (of_value v (below (in_slot s rs (n - 1)) q) ∷ [])) s rs n t us r →
          Stepped (scope_at bytes tab f) (act_of (scope_at bytes tab f) (store p v)) s rs n t us r
      unfolding act_leaves act_asks store_leaves store_asks
      known_acted y e d =
          let z = none_of (indexes_of bytes tab f p) e in
          acted (store p v) w (rw (z, y)) (rw (z, needs_below, y)) d

      pub somewhere_acted : any (indexes_of bytes tab f p) ≡ true →
          Stepped (scope_at bytes tab f) (leaving (scope_at bytes tab f) (in_slot s rs (n - 1)) (ask_whole v ∷ map ask_whole (indexes_of bytes tab f p))) s rs n t us r →
          Stepped (scope_at bytes tab f) (act_of (scope_at bytes tab f) (store p v)) s rs n t us r
      unfolding act_leaves act_asks
      somewhere_acted e d =
          acted (store p v) w (some_leaves (scope_at bytes tab f) (path_of (scope_at bytes tab f) p) (indexes_of bytes tab f p) (in_slot s rs (n - 1)) e)
          (some_asks (indexes_of bytes tab f p) v _ e) d
