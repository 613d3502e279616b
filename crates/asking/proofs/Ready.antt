-- An ask as a step of a pass: all of a value, and of a returned value the part that is asked, which stands in its slot trimmed to the result's type. What was ready is ready then.
use Prim.Native.Nat.{ℕ, ◌+◌, ◌-◌, ◌<◌}
use native.Mathlib.Omega.{arith}
use native.Mathlib.Decide.{ℕ_discrete}
use mathlib.Core.Path.{◌≡◌, ◌∙◌}
use mathlib.Core.Bool.{Bool, true}
use mathlib.Core.List.{List, ◌∷◌}
use mathlib.Core.Option.{some as present}
use lib.ListN.{get_or}
use Rattle.part.specs.PartReq.{PartReq}
use Rattle.part.specs.Store.{top, part}
use Rattle.part.specs.Ascending.{Ascending}
use Rattle.part.proofs.Pieces.{part-0}
use Rattle.module.specs.Module.{Return}
use Rattle.clearance.specs.Scope.{Scope}
use Rattle.clearance.specs.Needs.{of_value, ask_whole}
use Rattle.clearance.specs.Judged.{fits_statement}
use Rattle.needs.proofs.Lean.{trim_same}
use Rattle.pass.specs.Pass.{Carried, Passed}
use Rattle.pass.specs.Checked.{asked_of}
use Rattle.asked.specs.Within.{Within}
use Rattle.asked.proofs.Asks.{whole_within}
use Rattle.asked.proofs.Asking.{return_within, return_asking}
use Rattle.framed.specs.Kept.{Kept}
use Rattle.hold.specs.Hold.{held_by, in_slot, Reach}
use Rattle.hold.proofs.Reach.{reach_trans, reach_cons}
use Rattle.hold.proofs.Slots.{held_reach}
use Rattle.standing.specs.Slots.{asked_slot, Ready}
use Rattle.standing.specs.Standing.{setting_of, Stepped, Valued}
use Rattle.asking.specs.Asks.{Asks, step_of, ValueGiven, StepGiven}
use Rattle.asking.proofs.Steps.{kept_there}

module _ {S : Scope} {s rs : List ℕ} {n v : ℕ} (g : StepGiven S s rs n v) where
  hand_kept : Kept S (in_slot s rs (n - 1))
  hand_kept = g.ready.needs (n - 1) (omega (arith, g.ready.high)) (λ e. omega (arith, g.ready.high))

  -- the slots with the needs at hand
  last_above : {l : List PartReq} → Reach (held_by s rs (n - 1)) l → Reach (held_by s rs n) (in_slot s rs (n - 1) ∷ l)
  last_above h =
      let e : (n - 1) + 1 ≡ n = omega (arith, g.ready.high) in
      reach_trans (rw e at (held_reach s rs (n - 1) (omega (arith, g.ready.high, g.ready.live.loose.few)))) (reach_cons (in_slot s rs (n - 1)) h)

  asks_given : (a : ℕ) → a < top s → Ascending (part s a) → Within S (of_value v (part s a)) → ValueGiven S s rs n v a
  asks_given a l f w = record {
    read = g.read;
    judged = g.judged;
    live = g.ready.live;
    hand = omega (arith, g.ready.high);
    spare = g.spare;
    need = hand_kept;
    piece = l;
    ascends = f;
    within = w;
  }

  asks_ready : {f : List PartReq → PartReq → Carried → Passed} {t us : List ℕ} {r : Bool} → Asks S f s rs n t us r → r ≡ true → Ready S t us n
  asks_ready d e =
      let h = g.ready.high in
      record {
        live = d.live e;
        high = h;
        needs = λ j l o.
            elim (ℕ_discrete j (n - 1)) [
              | yes i ↦ rw i (d.need e)
              | no i ↦ rw (d.kept e j (omega arith)) (g.ready.needs j l o)
            ];
        asked = rw (d.kept e asked_slot (omega arith)) g.ready.asked;
      }

  -- all of the value
  pub whole_given : ValueGiven S s rs n v 0
  whole_given = asks_given 0 (omega (arith, g.ready.live.loose.good.base)) (rw (part-0 s) tt) (rw (part-0 s) (whole_within S g.read v g.there))

  pub whole_stepped : {t us : List ℕ} {r : Bool} → Asks S (step_of S (of_value v (part s 0))) s rs n t us r → Stepped S (step_of S (ask_whole v)) s rs n t us r
  whole_stepped {t} {us} {r} d = record {
    cells = d.cells;
    slots = d.slots;
    ready = asks_ready d;
    kept = d.kept;
    is = λ aside c z. (rw (part-0 s) at d).is aside c (last_above z);
  }

  -- the part that is asked of a returned value
  module _ (h : fits_statement S (Return (present v)) ≡ true) where
    abbrev asked : PartReq
    asked = in_slot s rs asked_slot

    asked_is : asked_of (setting_of S asked) ≡ asked
    unfolding asked_of
    asked_is = trim_same asked _ g.ready.asked.tidy

    pub returned_given : ValueGiven S s rs n v (get_or rs asked_slot 0)
    returned_given =
        asks_given (get_or rs asked_slot 0) (g.ready.live.loose.pieces asked_slot (omega (arith, g.ready.high))) g.ready.asked.ascends
        (rw asked_is at (return_within (setting_of S asked) g.read g.judged v g.there h))

    pub returned_valued : {t us : List ℕ} {r : Bool} → Asks S (step_of S (of_value v asked)) s rs n t us r → Valued S v s rs n t us r
    returned_valued d = record {
      cells = d.cells;
      slots = d.slots;
      ready = asks_ready d;
      kept = d.kept;
      is = λ p e aside c z.
          return_asking (setting_of S p) g.read g.judged v g.there h aside (in_slot s rs (n - 1)) c (kept_there hand_kept)
          ∙ (rw e at d).is aside c (last_above z);
    }
