-- The end of an if and of a switch, and the beginning of a loop, from their steps.
use Prim.Native.Nat.{ℕ, ◌+◌, ◌-◌, ◌<◌}
use native.Mathlib.Omega.{arith}
use mathlib.Core.Path.{◌≡◌, refl, sym, ap, ◌∙◌}
use mathlib.Core.Bool.{Bool, true, false, not}
use mathlib.Core.List.{List, ◌∷◌, ◌++◌}
use mathlib.Core.Option.{Option, some as present, none as nothing}
use lib.Dec.{ltb}
use lib.ListN.{length, get_or, set, length-set}
use Rattle.std.specs.Prelude.{Option as Optional}
use Rattle.std.proofs.Common.{None, Some}
use Rattle.part.specs.PartReq.{PartReq, add}
use Rattle.part.proofs.Equations.{never}
use Rattle.module.specs.declared.handles.ExpressionHandle.{ExpressionHandle}
use Rattle.access.specs.Access.{handle_in}
use Rattle.clearance.specs.Scope.{Scope}
use Rattle.clearance.specs.Needs.{ask_whole}
use Rattle.pass.specs.Pass.{work_bound, Carried, on, ◌>>=◌, joining, asking, turning_on}
use Rattle.framed.proofs.Kept.{kept_add}
use Rattle.hold.specs.Hold.{held_by, in_slot, Pushed, Reach}
use Rattle.hold.proofs.Reach.{reach_is, reach_sym, reach_trans, reach_cons, reach_cells, reach_among}
use Rattle.hold.proofs.Slots.{held_reach, held_same, slot_set, slot_other, slot_among}
use Rattle.standing.specs.Slots.{Ready}
use Rattle.standing.specs.Standing.{passed_by, Stepped, Closed, Begun}
use Rattle.standing.proofs.Arms.{ending}
use Rattle.standing.proofs.Readies.{ready_open, ready_pushed}
use Rattle.standing.proofs.Taken.{within-fits}
use Rattle.asking.specs.Asks.{step_of, StepGiven}
use Rattle.ends.specs.Merged.{Merged, EndGiven, BeginGiven}
use Rattle.ends.proofs.Merges.{by_test, case_closed, closed_then, closed_short, reach_double}

module _ {S : Scope} {s rs : List ℕ} {n e : ℕ} (g : EndGiven S s rs n e) where
  module _ {t us : List ℕ} {r : Bool} (w : Merged s rs n n (n - 1) t us r) where
    pub if_given : r ≡ true → StepGiven S t us n e
    if_given i = record {
      read = g.read;
      judged = g.judged;
      ready = (case_closed g.ready g.high w).ready i;
      spare = omega (arith, g.spare, w.slots);
      there = g.there;
    }

    pub if_ends : {u ws : List ℕ} {b : Bool} → r ≡ true → Stepped S (step_of S (ask_whole e)) t us n u ws b → Closed S (ending S e) s rs n u ws b
    if_ends i v = closed_then (omega (arith, g.high)) (omega (arith, g.spare)) (case_closed g.ready g.high w) i v

    pub if_short : r ≡ false → Closed S (ending S e) s rs n t us false
    if_short i = closed_short (step_of S (ask_whole e)) (case_closed g.ready g.high w) i

module _ {S : Scope} {l : ℕ} {s rs : List ℕ} {n : ℕ} {w : Option ℕ} (g : BeginGiven S l s rs n w) where
  -- the slots with the needs after the loop
  exit_above : {m : List PartReq} → Reach (held_by s rs (n - 1)) m → Reach (held_by s rs n) (in_slot s rs (n - 1) ∷ m)
  exit_above h =
      let i : (n - 1) + 1 ≡ n = omega (arith, g.ready.high) in
      reach_trans (rw i at (held_reach s rs (n - 1) (omega (arith, g.spare)))) (reach_cons (in_slot s rs (n - 1)) h)

  again_in : {m : List PartReq} → Reach (held_by s rs n) m → Reach (in_slot s rs l ∷ m) m
  again_in {m} h =
      reach_trans (reach_cons (in_slot s rs l) (reach_sym h))
      (reach_trans (reach_among (in_slot s rs l) (held_by s rs n) (slot_among s rs n l (omega (arith, g.low, g.ready.high)) (omega (arith, g.spare)))) h)

module _ {S : Scope} {l : ℕ} {s rs : List ℕ} {n : ℕ} {test : Optional ExpressionHandle} (g : BeginGiven S l s rs n (handle_in test)) where
  -- without `break_if`
  module _ (i : test ≡ None) {us : List ℕ} (d : us ≡ set rs n (get_or rs l 0)) where
    begun_ready : Ready S s us (n + 1)
    begun_ready =
        let a = g.low in
        let b = g.ready.high in
        rw d (ready_open g.ready (get_or rs l 0) (g.ready.live.loose.pieces l (omega arith)) (g.ready.needs l (omega arith) (λ z. omega arith)) (omega (arith, g.spare)))

    begun_other : (j : ℕ) → j < n → in_slot s us j ≡ in_slot s rs j
    begun_other j h = rw d (slot_other s rs n (get_or rs l 0) j (λ z. omega arith))

    begun_here : in_slot s us n ≡ in_slot s rs l
    begun_here = rw d (slot_set s rs n (get_or rs l 0) (omega (arith, g.spare)))

    begun_long : length us ≡ length rs
    begun_long = ap length d ∙ length-set rs n _

    absent_is : handle_in test ≡ nothing
    unfolding handle_in
    absent_is = rw i

    pub loop_plain : Begun S l (handle_in test) s rs n s us true
    unfolding turning_on
    loop_plain = record {
      cells = refl;
      slots = begun_long;
      ready = λ _. begun_ready;
      kept = λ _. begun_other;
      is = λ aside c h.
          rw absent_is
          (within-fits (in_slot s rs (n - 1) ∷ aside) begun_ready.live
          (reach_trans (held_reach s us n (omega (arith, g.spare, begun_long)))
          (rw begun_here (reach_cons (in_slot s rs l) (reach_trans (reach_is (held_same s rs s us n (omega (arith, g.spare)) (omega (arith, g.spare, begun_long)) begun_other)) (exit_above g h)))))
          ∙ ap (on c) (sym begun_here));
    }

  -- with it
  module _ {e : ExpressionHandle} (i : test ≡ Some e) where
    present-is : handle_in test ≡ present e.0
    unfolding handle_in
    present-is = rw i

    module _ {t us : List ℕ} {r : Bool} (w : Pushed s rs n (add (in_slot s rs (n - 1)) (in_slot s rs l)) t us r) where
      turned_ready : r ≡ true → Ready S t us (n + 1)
      turned_ready z =
          let a = g.low in
          let b = g.ready.high in
          ready_pushed g.ready (kept_add S _ _ (g.ready.needs (n - 1) (omega arith) (λ z. omega arith)) (g.ready.needs l (omega arith) (λ z. omega arith))) w z

      pub loop_given : r ≡ true → StepGiven S t us (n + 1) e.0
      loop_given z = record {
        read = g.read;
        judged = g.judged;
        ready = turned_ready z;
        spare = omega (arith, g.spare, w.slots);
        there = rw present-is at g.there;
      }

      joined_is : (aside : List PartReq) (c : Carried) → Reach (held_by s rs (n - 1)) (aside ++ c.table) →
          joining (in_slot s rs (n - 1) ∷ aside) (in_slot s rs (n - 1)) (in_slot s rs l) c ≡ passed_by r c (add (in_slot s rs (n - 1)) (in_slot s rs l))
      unfolding joining
      joined_is aside c h =
          let x = in_slot s rs (n - 1) in
          let y = in_slot s rs l in
          by_test (x ∷ y ∷ x ∷ aside) (add x y) c
          (w.is
          ∙ ap (λ z. not (ltb work_bound z))
          (reach_cells
          (reach_cons (add x y)
          (reach_trans (exit_above g h) (reach_sym (reach_trans (reach_cons x (again_in g (exit_above g h))) (reach_double x (aside ++ c.table))))))))

      pub loop_short : r ≡ false → Begun S l (handle_in test) s rs n t us false
      unfolding turning_on
      loop_short z = record {
        cells = w.cells;
        slots = w.slots;
        ready = λ q. never q;
        kept = λ q. never q;
        is = λ aside c h.
            rw present-is
            (ap (λ o. o >>= λ d m. asking S (in_slot s rs (n - 1) ∷ aside) (ask_whole e.0) m d)
            (joined_is aside c h ∙ ap (λ q. passed_by q c (add (in_slot s rs (n - 1)) (in_slot s rs l))) z));
      }

      pub loop_begins : {u ws : List ℕ} {b : Bool} → r ≡ true → Stepped S (step_of S (ask_whole e.0)) t us (n + 1) u ws b → Begun S l (handle_in test) s rs n u ws b
      unfolding turning_on
      loop_begins {u} {ws} {b} z v =
          let o : (n + 1) - 1 ≡ n = omega arith in
          record {
            cells = v.cells ∙ w.cells;
            slots = v.slots ∙ w.slots;
            ready = v.ready;
            kept = λ q j h. v.kept q j (omega arith) ∙ w.kept z j h;
            is = λ aside c h.
                rw present-is
                (ap (λ o. o >>= λ d m. asking S (in_slot s rs (n - 1) ∷ aside) (ask_whole e.0) m d)
                (joined_is aside c h ∙ ap (λ q. passed_by q c (add (in_slot s rs (n - 1)) (in_slot s rs l))) z ∙ ap (on c) (sym (w.here z)))
                ∙ rw o at
                (v.is (in_slot s rs (n - 1) ∷ aside) c
                (rw o (reach_trans (reach_is (held_same s rs t us n (omega (arith, g.spare)) (omega (arith, g.spare, w.slots)) (w.kept z))) (exit_above g h)))));
          }
