-- The end of a loop, from the copies, the sum that was pushed and the comparison.
use Prim.Native.Nat.{ℕ, ◌+◌, ◌-◌, ◌<◌}
use native.Mathlib.Omega.{arith}
use native.Mathlib.Decide.{ℕ_discrete}
use mathlib.Core.Path.{◌≡◌, sym, ap, ◌∙◌}
use mathlib.Core.Bool.{Bool, true, false, not, ◌&&◌}
use mathlib.Core.List.{List, ◌∷◌, ◌++◌}
use lib.Dec.{ltb}
use lib.ListN.{length, get_or, set, length-set}
use Rattle.part.specs.PartReq.{PartReq, add, contains}
use Rattle.part.specs.Summed.{Covered}
use Rattle.part.proofs.Equations.{never}
use Rattle.clearance.specs.Scope.{Scope}
use Rattle.pass.specs.Pass.{work_bound, Carried, within}
use Rattle.hold.specs.Hold.{held_by, in_slot, Live, Pushed, Reach}
use Rattle.hold.proofs.Reach.{reach_trans, reach_cons, reach_append, reach_is, reach_exchange, reach_cells}
use Rattle.hold.proofs.Slots.{live_less, live_set, slot_set, slot_other, loose_kept, slot_kept}
use Rattle.framed.specs.Kept.{Kept}
use Rattle.framed.proofs.Kept.{kept_add}
use Rattle.standing.specs.Slots.{table_size, asked_slot, stack_slot, aside_of, Ready}
use Rattle.standing.specs.Standing.{TableIn, passed_by}
use Rattle.standing.specs.Passing.{Passing}
use Rattle.standing.proofs.Aside.{held_last, aside_same, new_table}
use Rattle.ends.specs.Merged.{LoopEnds}
use Rattle.ends.proofs.Merges.{by_test}

-- what the slots are after the first copy
module _ {s rs : List ℕ} {n l : ℕ} (d : Live s rs (n + 1 + 1)) (high : stack_slot < n) (low : l < table_size) {rs₁ : List ℕ} (e : rs₁ ≡ set rs (n - 1) (get_or rs (n + 1) 0)) where
  first_long : length rs₁ ≡ length rs
  first_long = ap length e ∙ length-set rs (n - 1) _

  pub first_last : in_slot s rs₁ (n - 1) ≡ in_slot s rs (n + 1)
  first_last = rw e (slot_set s rs (n - 1) (get_or rs (n + 1) 0) (omega (arith, d.loose.few)))

  pub first_other : (j : ℕ) → j + 1 < n → in_slot s rs₁ j ≡ in_slot s rs j
  first_other j h = rw e (slot_other s rs (n - 1) (get_or rs (n + 1) 0) j (λ z. omega arith))

  module _ {t ws : List ℕ} {b : Bool} (w : Pushed s rs₁ n (add (in_slot s rs₁ (n - 1)) (in_slot s rs₁ (table_size + l))) t ws b) where
    sum_is : add (in_slot s rs₁ (n - 1)) (in_slot s rs₁ (table_size + l)) ≡ add (in_slot s rs (n + 1)) (in_slot s rs (table_size + l))
    sum_is = rw (first_last, first_other (table_size + l) (omega arith))

    -- the test, in the words of the definition
    loop_test : (aside : List PartReq) (c : Carried) → Reach (aside_of s rs (n - 1)) aside → TableIn s rs c →
        within (add (in_slot s rs (n + 1)) (in_slot s rs (table_size + l)) ∷ aside) (in_slot s rs (n + 1)) c ≡ passed_by b c (in_slot s rs (n + 1))
    loop_test aside c h g =
        let i : (n - 1) + 1 ≡ n = omega arith in
        let few = d.loose.few in
        let long = first_long in
        let u : TableIn s rs₁ c = record { is = λ j m. first_other (table_size + j) (omega arith) ∙ g.is j m; short = g.short } in
        let a = rw i at (held_last s rs₁ (n - 1) (omega arith) (omega arith)) in
        let o : Reach (held_by s rs₁ n) (in_slot s rs (n + 1) ∷ (aside ++ c.table)) = reach_trans a (rw first_last (reach_cons (in_slot s rs (n + 1)) (reach_append (reach_trans (reach_is (aside_same s rs s rs₁ (n - 1) (λ j m _. first_other j (omega arith)))) h) (new_table s rs₁ c u)))) in
        by_test (add (in_slot s rs (n + 1)) (in_slot s rs (table_size + l)) ∷ aside) (in_slot s rs (n + 1)) c
        (w.is ∙ ap (λ z. not (ltb work_bound z)) (reach_cells (reach_trans (reach_cons _ o) (rw sum_is (reach_exchange _ (in_slot s rs (n + 1)) (aside ++ c.table))))))

    pub loop_full : {p q : Passing} → b ≡ false → q.full ≡ true → LoopEnds l s rs n p t ws q
    loop_full {p} {q} i g = record {
      is = λ S r. record {
        cells = w.cells;
        slots = w.slots ∙ first_long;
        ready = λ z. never (sym z ∙ g);
        kept = λ z. never (sym z ∙ g);
        hand = λ z. never (sym z ∙ g);
        joined = λ z. never (sym z ∙ g);
        others = λ z. never (sym z ∙ g);
        fault = λ z. never (sym z ∙ g);
        held = λ z. never (sym z ∙ g);
        deep = λ z. never (sym z ∙ g);
        wide = λ z. never (sym z ∙ g);
        is = λ aside c h u. loop_test aside c h u ∙ ap (λ z. passed_by z c (in_slot s rs (n + 1))) (i ∙ sym (ap not g));
      };
    }

    -- the second copy, and the comparison
    module _ (i : b ≡ true) {ws₁ : List ℕ} (e₁ : ws₁ ≡ set ws (table_size + l) (get_or ws n 0)) where
      second_long : length ws₁ ≡ length rs
      second_long = ap length e₁ ∙ length-set ws (table_size + l) _ ∙ w.slots ∙ first_long

      second_live : Live t ws₁ n
      second_live = rw e₁ (live_set {n = n} (live_less (w.live i) (omega arith)) (table_size + l) ((w.live i).loose.pieces n (omega arith)))

      second_new : in_slot t ws₁ (table_size + l) ≡ add (in_slot s rs (n + 1)) (in_slot s rs (table_size + l))
      second_new = rw e₁ (slot_set t ws (table_size + l) (get_or ws n 0) (omega (arith, (w.live i).loose.few)) ∙ w.here i ∙ sum_is)

      second_other : (j : ℕ) → j < n → (j ≡ table_size + l → ⊥) → in_slot t ws₁ j ≡ in_slot s rs₁ j
      second_other j h o = rw e₁ (slot_other t ws (table_size + l) (get_or ws n 0) j o) ∙ w.kept i j h

      module _ {u : List ℕ} {holds : Bool} (v : Covered t u (get_or ws₁ l 0) (get_or ws₁ (n - 1) 0) holds) where
        third : (j : ℕ) → j < n → in_slot u ws₁ j ≡ in_slot t ws₁ j
        third j h = slot_kept second_live.loose v.remembered.kept j h

        last_live : Live u ws₁ n
        last_live = record { loose = loose_kept second_live.loose v.remembered.kept; slim = omega (arith, v.remembered.tops, second_live.slim) }

        last_other : (j : ℕ) → j + 1 < n → (j ≡ table_size + l → ⊥) → in_slot u ws₁ j ≡ in_slot s rs j
        last_other j h o = third j (omega arith) ∙ second_other j (omega arith) o ∙ first_other j h

        last_hand : in_slot u ws₁ (n - 1) ≡ in_slot s rs (n + 1)
        last_hand = third (n - 1) (omega arith) ∙ second_other (n - 1) (omega arith) (λ z. omega arith) ∙ first_last

        last_new : in_slot u ws₁ (table_size + l) ≡ add (in_slot s rs (n + 1)) (in_slot s rs (table_size + l))
        last_new = third (table_size + l) (omega arith) ∙ second_new

        last_held : holds ≡ contains (in_slot s rs l) (in_slot s rs (n + 1))
        last_held =
            v.is
            ∙ ap (λ z. contains z (in_slot t ws₁ (n - 1))) (second_other l (omega arith) (λ z. omega arith) ∙ first_other l (omega arith))
            ∙ ap (contains (in_slot s rs l)) (second_other (n - 1) (omega arith) (λ z. omega arith) ∙ first_last)

        last_need : {S : Scope} → Ready S s rs (n + 1 + 1) → (j : ℕ) → j < n → (j ≡ asked_slot → ⊥) → Kept S (in_slot u ws₁ j)
        last_need {S} r j h o =
            elim (ℕ_discrete j (table_size + l)) [
              | yes z ↦ rw (z, last_new) (kept_add S _ _ (r.needs (n + 1) (omega arith) (λ z. omega arith)) (r.needs (table_size + l) (omega arith) (λ z. omega arith)))
              | no z ↦
                  elim (ℕ_discrete j (n - 1)) [
                    | yes y ↦ rw (y, last_hand) (r.needs (n + 1) (omega arith) (λ z. omega arith))
                    | no y ↦ rw (last_other j (omega arith) z) (r.needs j (omega arith) o)
                  ]
            ]

        pub loop_ends : {p q : Passing} → q.full ≡ false → q.fault ≡ p.fault → q.held ≡ holds && p.held → q.deep ≡ p.deep → q.wide ≡ p.wide → LoopEnds l s rs n p u ws₁ q
        loop_ends {p} {q} f a h deep wide = record {
          is = λ S r. record {
            cells = v.remembered.kept.long ∙ w.cells;
            slots = second_long;
            ready = λ _. record {
              live = last_live;
              high = high;
              needs = last_need r;
              asked = rw (last_other asked_slot (omega arith) (λ z. omega arith)) r.asked;
            };
            kept = λ _. record { is = λ j m o. last_other j m (λ z. let y = o.is (omega arith) in omega arith) };
            hand = λ _. last_hand;
            joined = λ _. last_new;
            others = λ _ j m o. last_other (table_size + j) (omega arith) (λ z. o (omega arith));
            fault = λ _. a;
            held = λ _. h ∙ ap (λ z. z && p.held) last_held;
            deep = λ _. deep;
            wide = λ _. wide;
            is = λ aside c g y. loop_test aside c g y ∙ ap (λ z. passed_by z c (in_slot s rs (n + 1))) (i ∙ sym (ap not f));
          };
        }
