-- An emit of one expression, from what its parts left: the expression's slot is taken out, and its operands are asked for what was needed there.
use Prim.Native.Nat.{ℕ, ◌+◌, ◌-◌, ◌<◌, ◌≤◌}
use native.Mathlib.Omega.{arith}
use mathlib.Core.Path.{◌≡◌, refl, sym, ap, ◌∙◌}
use mathlib.Core.Bool.{Bool, true, false, cond}
use mathlib.Core.List.{List, ◌++◌}
use lib.ListN.{length, get_or, set, take, drop, length-append, length-drop, length-take}
use lib.Seq.{length-take-le}
use Rattle.std.specs.Prelude.{Option, Some}
use Rattle.part.specs.PartReq.{PartReq, none}
use Rattle.part.proofs.Distinct.{untrue}
use Rattle.module.specs.Tables.{function_of}
use Rattle.clearance.specs.Shape.{some, below}
use Rattle.clearance.specs.Scope.{Scope, Place, slot, evaluated, frame, arm}
use Rattle.clearance.specs.Tree.{emit}
use Rattle.clearance.specs.Needs.{asks, gives, overlap}
use Rattle.judge.specs.Given.{scope_at}
use Rattle.needs.proofs.Lean.{need_below}
use Rattle.pass.specs.Pass.{act_asks, act_leaves}
use Rattle.asked.proofs.Acts.{emit-overlap}
use Rattle.framed.proofs.Kept.{kept_without}
use Rattle.framed.proofs.Slots.{slot-shape, slot-fills, slot_placed}
use Rattle.hold.specs.Hold.{in_slot}
use Rattle.standing.specs.Standing.{Stepped}
use Rattle.quiet.specs.Acts.{Overlap}
use Rattle.operands.specs.AsksAll.{wanted_in, AsksAll}
use Rattle.operands.specs.Arms.{OperandsGiven, AsksOperands, PathRoom}
use Rattle.acts.specs.Acts.{ActGiven, act_of, TakeGiven, TakenOut}
use Rattle.acts.proofs.Places.{world_few, slot-rooted}
use Rattle.acts.proofs.Steps.{hand_kept, taken_opened, opened_full, asked_full, left, acted}

-- as much of the path as the function's pointers take
pub path_room : {bytes tab : List ℕ} {f : ℕ} {types alike : List ℕ} {paths : List Bool} {s rs : List ℕ} {n e : ℕ} → OperandsGiven bytes tab f types alike paths s rs n e → (path : List ℕ) →
    length (function_of bytes tab f).expressions + 2 ≤ length path → (k : ℕ) → k ≡ length (function_of bytes tab f).expressions → PathRoom bytes tab f (take (k + 2) path)
path_room g path h k e =
    let z : length (take (k + 2) path) ≡ k + 2 = length-take-le (k + 2) path (omega arith) in
    record { enough = omega arith; few = omega (arith, world_few g.world) }

-- the path with its lent part again
pub lent-long : (part path before : List ℕ) (m : ℕ) → length part ≡ length (take m path) → length path ≡ length before → length (part ++ drop m path) ≡ length before
lent-long part path before m h e = omega (arith, length-append part (drop m path), length-drop m path, length-take m path, h, e)

module _ {bytes tab : List ℕ} {f : ℕ} {types alike : List ℕ} {paths : List Bool} {s rs path : List ℕ} {n : ℕ} (g : ActGiven bytes tab f types alike paths s rs path n) {e : ℕ} (there : e < length (function_of bytes tab f).expressions) where
  abbrev S : Scope
  S = scope_at bytes tab f

  abbrev hand : PartReq
  hand = in_slot s rs (n - 1)

  abbrev place : Place
  place = slot (evaluated e)

  takes : overlap S (emit e) hand ≡ cond (gives (arm S e)) (below hand place) none
  takes = emit-overlap S g.world.read g.world.judged e there hand (hand_kept g.ready).need.tidy

  module _ (w : some (overlap S (emit e) hand) ≡ true) where
    -- an emit gives it its value, since something is needed of it
    does_give : gives (arm S e) ≡ true
    does_give = go (gives (arm S e)) (ap some takes)
      where
        go : (b : Bool) → some (overlap S (emit e) hand) ≡ some (cond b (below hand place) none) → b ≡ true
        go true h = refl
        go false h = untrue (sym h ∙ w)

    needs_below : overlap S (emit e) hand ≡ below hand place
    needs_below = takes ∙ rw does_give

    pub emit-take : {before after : List ℕ} {found : Option ℕ} → Overlap S (emit e) s hand before after found → {a : ℕ} → found ≡ Some a → {q : Place} → q ≡ slot (evaluated e) → TakeGiven bytes tab f s rs n q a
    unfolding slot
    emit-take o f y =
        let x = rw f at o.piece in
        rw y
        record {
          ready = g.ready;
          spare = g.spare;
          piece = record { piece = x.piece; is = x.is ∙ needs_below };
          rooted = slot-rooted e;
          placed = slot_placed S (evaluated e) there;
          short = omega arith;
        }

    module _ {q : Place} (y : q ≡ slot (evaluated e)) {t us : List ℕ} {r : Bool} (k : TakenOut S q s rs n t us r) where
      out : TakenOut S place s rs n t us r
      out = rw y at k

      pub emit-full : r ≡ false → Stepped S (act_of S (emit e)) s rs n t us false
      unfolding act_leaves act_asks
      emit-full z = acted (emit e) w refl refl (opened_full g.ready (taken_opened g.ready out) (asks S (arm S e) (overlap S (emit e) hand)) z)

      module _ (z : r ≡ true) where
        wanted_is : wanted_in t us (n + 2) ≡ overlap S (emit e) hand
        wanted_is = let i : (n + 2) - 2 ≡ n = omega arith in rw i (out.part z ∙ sym needs_below)

        pub operands_given : OperandsGiven bytes tab f types alike paths t us (n + 2) e
        operands_given =
            let i : (n + 2) - 1 ≡ n + 1 = omega arith in
            record {
              world = g.world;
              there = there;
              gives = does_give;
              live = out.live z;
              two = omega arith;
              spare = omega (arith, g.spare, out.slots);
              need = rw (i, out.hand z) (kept_without S place hand (hand_kept g.ready));
              wanted = rw (wanted_is, needs_below) (rw (slot-shape S (evaluated e) there) at (need_below place (frame S) hand (hand_kept g.ready).need (slot-fills S (evaluated e) there)));
            }

        module _ {u ws : List ℕ} {b : Bool} (a : AsksOperands bytes tab f e t us (n + 2) u ws b) where
          asked : AsksAll S (asks S (arm S e) (overlap S (emit e) hand)) t us (n + 2) u ws b
          asked = rw wanted_is at a

          pub operands_full : b ≡ false → Stepped S (act_of S (emit e)) s rs n u ws false
          unfolding act_leaves act_asks
          operands_full h = acted (emit e) w refl refl (asked_full g.ready (taken_opened g.ready out) _ z (omega arith) asked h)

          pub emit-left : b ≡ true → {ys : List ℕ} → ys ≡ set ws (n - 1) (get_or ws (n + 1) 0) → Stepped S (act_of S (emit e)) s rs n u ys true
          unfolding act_leaves act_asks
          emit-left h c = acted (emit e) w refl refl (left g.ready (taken_opened g.ready out) _ z (omega arith) asked h (n + 1) (omega arith) c)
