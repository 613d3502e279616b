-- One ask, from what its calls left. The definition tests the sum, the part that is asked and all that is kept: just what the second push tests (`sum_tests`). Where the first
-- is past the bound, so is that longer list.
use Prim.Native.Nat.{ℕ, zero, suc, ◌+◌, ◌-◌, ◌<◌, ◌≤◌}
use native.Mathlib.Omega.{arith}
use native.Mathlib.Decide.{ℕ_discrete}
use mathlib.Core.Path.{◌≡◌, refl, sym, ap, subst, ◌∙◌}
use mathlib.Core.Bool.{Bool, true, false, cond, not}
use mathlib.Core.List.{List, ◌∷◌}
use lib.Dec.{eqb, ltb}
use lib.ListN.{length, get_or, set, length-set}
use borrow.Author.Tests.{ltb-true, lt-ltb, ne_eqb, not-false}
use Rattle.part.specs.PartReq.{PartReq, all, exist, none, more, is_exist, add}
use Rattle.part.specs.Store.{top, part, means, Made, Seen}
use Rattle.part.specs.Collect.{reached, cells_of}
use Rattle.part.proofs.Pieces.{part-1, part-2}
use Rattle.part.proofs.Distinct.{untrue, once_monotone}
use Rattle.clearance.specs.Shape.{Shape, some, under}
use Rattle.clearance.specs.Scope.{Scope, frame}
use Rattle.clearance.specs.Needs.{Ask, need}
use Rattle.clearance.specs.IsNeed.{Tidy}
use Rattle.pass.specs.Pass.{work_bound, Carried, on, full, too_large, within, part_of, asking}
use Rattle.asked.specs.Within.{wanted}
use Rattle.asked.proofs.Asking.{need-is, asks_nothing}
use Rattle.framed.specs.Kept.{Kept}
use Rattle.framed.proofs.Kept.{kept_need}
use Rattle.hold.specs.Hold.{held_by, in_slot, Loose, Live, Pushed}
use Rattle.hold.proofs.Reach.{tail_in, reach_cells, reach_cons}
use Rattle.hold.proofs.Slots.{slot_set, slot_other, loose_kept, live_within, live_less, live_set, pushed_reach}
use Rattle.hold.proofs.Pushes.{pushed_made}
use Rattle.standing.specs.Standing.{passed_by}
use Rattle.asking.specs.Asks.{Asks, AskGiven, step_of, Adds, AsksAt}

-- The needs at hand, and the bound

tidy_there : (p : PartReq) (t : Shape) → Tidy p t → is_exist p ≡ false
tidy_there all t h = refl
tidy_there exist t h = absurd h
tidy_there none t h = refl
tidy_there (more i p r) t h = refl

pub kept_there : {S : Scope} {m : PartReq} → Kept S m → is_exist m ≡ false
kept_there {S} {m} k = tidy_there m (frame S) k.need.tidy

within-passed : (aside : List PartReq) (m : PartReq) (c : Carried) (r : Bool) → r ≡ not (too_large aside m c) → within aside m c ≡ passed_by r c m
unfolding within
within-passed aside m c r e = go (too_large aside m c) r e
  where
    go : (b r : Bool) → r ≡ not b → cond b full (on c m) ≡ passed_by r c m
    go true r e = rw e
    go false r e = rw e

-- an ask is a sum
asking_is : (S : Scope) (aside : List PartReq) (x : Ask) (p m : PartReq) (c : Carried) → part_of S x ≡ p → is_exist m ≡ false → asking S aside x m c ≡ within (p ∷ m ∷ aside) (add p m) c
unfolding asking
asking_is S aside x p m c e i = rw (need-is S x m i, e)

-- Whether anything is asked

some-part : (s : List ℕ) (c : ℕ) → (c ≡ 1 → ⊥) → (c ≡ 2 → ⊥) → some (part s c) ≡ true
unfolding part means
some-part s zero f g = refl
some-part s (suc zero) f g = absurd (f refl)
some-part s (suc (suc zero)) f g = absurd (g refl)
some-part s (suc (suc (suc c))) f g = let z : 2 < suc (suc (suc c)) = omega arith in simp (lt-ltb _ _ z)

pub low_wanted : (s : List ℕ) (a : ℕ) → a < 3 → eqb a 0 ≡ wanted (part s a)
unfolding part means
low_wanted s zero h = refl
low_wanted s (suc zero) h = refl
low_wanted s (suc (suc zero)) h = refl
low_wanted s (suc (suc (suc a))) h = absurd (omega arith)

module _ {s : List ℕ} {a i c r : ℕ} (d : Seen s a i c r) where
  pub one_unwanted : c ≡ 1 → false ≡ wanted (part s a)
  one_unwanted e = rw (d.is, e, part-1 s)

  pub cell_wanted : (c ≡ 1 → ⊥) → not (eqb c 2) ≡ wanted (part s a)
  cell_wanted f =
      rw d.is
      (elim (ℕ_discrete c 2) [
        | yes e ↦ rw (e, part-2 s)
        | no g ↦ rw (ne_eqb c 2 g, some-part s c f g)
      ])

-- what the ask x adds
adds_part : {S : Scope} {x : Ask} {q : List ℕ} {p : PartReq} → wanted p ≡ true → Adds S x q p → part_of S x ≡ under q p
adds_part {q = q} {p = p} w a = a.is ∙ ap (λ (b : Bool). cond b (under q p) none) w

adds_none : {S : Scope} {x : Ask} {q : List ℕ} {p : PartReq} → wanted p ≡ false → Adds S x q p → part_of S x ≡ none
adds_none {q = q} {p = p} w a = a.is ∙ ap (λ (b : Bool). cond b (under q p) none) w

module _ (S : Scope) (x : Ask) (s rs : List ℕ) (n : ℕ) (p : PartReq) where
  -- an ask that is past the bound
  asks_full : {t us : List ℕ} → part_of S x ≡ p → Kept S (in_slot s rs (n - 1)) → length t ≡ length s → length us ≡ length rs →
      not (ltb work_bound (cells_of (add p (in_slot s rs (n - 1)) ∷ p ∷ held_by s rs n))) ≡ false → Asks S (step_of S x) s rs n t us false
  asks_full e k y z w = record {
    cells = y;
    slots = z;
    live = λ e. untrue e;
    kept = λ e. untrue e;
    need = λ e. untrue e;
    is = λ aside c d.
        asking_is S aside x p (in_slot s rs (n - 1)) c e (kept_there k)
        ∙ within-passed _ _ c false (unfold too_large in (sym w ∙ ap (λ (m : ℕ). not (ltb work_bound m)) (reach_cells (reach_cons _ (reach_cons p d)))));
  }

-- an ask for nothing changes nothing
pub asks_idle : (S : Scope) (x : Ask) {s rs : List ℕ} {n : ℕ} → Live s rs n → Kept S (in_slot s rs (n - 1)) → part_of S x ≡ none → Asks S (step_of S x) s rs n s rs true
asks_idle S x {s} {rs} {n} l k h = record {
  cells = refl;
  slots = refl;
  live = λ e. l;
  kept = λ e j b. refl;
  need = λ e. k;
  is = λ aside c r.
      asks_nothing S aside x (in_slot s rs (n - 1)) c h (kept_there k) (unfold too_large in (ap (ltb work_bound) (sym (reach_cells r)) ∙ live_within l));
}

module _ {s rs : List ℕ} {n : ℕ} {q : List ℕ} {a : ℕ} (g : AskGiven s rs n q a) where
  abbrev asked : PartReq
  asked = part s a

  abbrev hand : PartReq
  hand = in_slot s rs (n - 1)

  -- Nothing is asked.
  pub asks_none : wanted asked ≡ false → AsksAt q asked s rs n s rs true
  asks_none w = record { each = λ S x d k. asks_idle S x g.live k (adds_none w d) }

  -- Something is asked. The part is made:
  module _ {t : List ℕ} {u : ℕ} (d : Made s t (under q asked) (length q) u) where
    pub push_asks : Loose t rs n × ((n < length rs) × (u < top t))
    push_asks = (loose_kept g.live.loose d.kept, (omega (arith, g.spare), d.piece))

    module _ (w : wanted asked ≡ true) {v us : List ℕ} {r : Bool} (e : Pushed t rs n (part t u) v us r) where
      -- and pushed
      part_pushed : Pushed s rs n (under q asked) v us r
      part_pushed = pushed_made g.live.loose d.kept d.is e

      -- which may be past the bound;
      pub first_full : r ≡ false → AsksAt q asked s rs n v us false
      first_full f = record {
        each = λ S x b k.
            let l = under q asked ∷ held_by s rs n in
            let y = ltb-true work_bound (cells_of l) (not-false (ltb work_bound (cells_of l)) (sym part_pushed.is ∙ f)) in
            let z : cells_of l ≤ cells_of (add (under q asked) hand ∷ l) = once_monotone (λ o. 1) (reached l) (reached (add (under q asked) hand ∷ l)) (tail_in (add (under q asked) hand) l) in
            asks_full S x s rs n (under q asked) (adds_part w b) k part_pushed.cells part_pushed.slots (ap not (lt-ltb work_bound (cells_of (add (under q asked) hand ∷ l)) (omega arith)));
      }

      -- then the sum
      module _ (f : r ≡ true) where
        pub sum_asks : Live v us (n + 1) × ((n + 1 < length us) × ((n < n + 1) × (n - 1 < n + 1)))
        sum_asks = (part_pushed.live f, (omega (arith, part_pushed.slots, g.spare), (omega arith, omega arith)))

        module _ {z vs : List ℕ} {o : Bool} (b : Pushed v us (n + 1) (add (in_slot v us n) (in_slot v us (n - 1))) z vs o) where
          sum_is : add (in_slot v us n) (in_slot v us (n - 1)) ≡ add (under q asked) hand
          sum_is = rw (part_pushed.here f, part_pushed.kept f (n - 1) (omega (arith, g.hand)))

          sum_tests : o ≡ not (ltb work_bound (cells_of (add (under q asked) hand ∷ under q asked ∷ held_by s rs n)))
          sum_tests =
              (rw sum_is at b.is)
              ∙ ap (λ (m : ℕ). not (ltb work_bound m)) (reach_cells (reach_cons _ (pushed_reach (omega (arith, g.spare)) (subst (Pushed s rs n (under q asked) v us) f part_pushed))))

          pub second_full : o ≡ false → AsksAt q asked s rs n z vs false
          second_full e = record {
            each = λ S x d k. asks_full S x s rs n (under q asked) (adds_part w d) k (b.cells ∙ part_pushed.cells) (b.slots ∙ part_pushed.slots) (sym sum_tests ∙ e);
          }

          pub copy_asks : (n + 1 < length vs) × (n - 1 < length vs)
          copy_asks = (omega (arith, part_pushed.slots, b.slots, g.spare), omega (arith, part_pushed.slots, b.slots, g.spare))

          module _ (y : o ≡ true) where
            abbrev from : ℕ
            from = get_or vs (n + 1) 0

            abbrev to : ℕ
            to = n - 1

            hand_is : in_slot z (set vs to from) to ≡ add (under q asked) hand
            hand_is = slot_set z vs to from copy_asks.1 ∙ b.here y ∙ sum_is

            summed : (S : Scope) (x : Ask) → Adds S x q asked → Kept S hand → Asks S (step_of S x) s rs n z (set vs to from) true
            summed S x d k =
                let need-same : need S x hand ≡ add (under q asked) hand = need-is S x hand (kept_there k) ∙ ap (λ (p : PartReq). add p hand) (adds_part w d) in
                record {
                  cells = b.cells ∙ part_pushed.cells;
                  slots = length-set vs to from ∙ b.slots ∙ part_pushed.slots;
                  live = λ _. live_set (live_less (b.live y) (omega arith)) to ((b.live y).loose.pieces (n + 1) (omega arith));
                  kept = λ _ j l. slot_other z vs to from j (λ i. omega arith) ∙ b.kept y j (omega arith) ∙ part_pushed.kept f j (omega arith);
                  need = λ _. rw (hand_is ∙ sym need-same) (kept_need S x hand d.fine k);
                  is = λ aside c h.
                      asking_is S aside x (under q asked) hand c (adds_part w d) (kept_there k)
                      ∙ within-passed (under q asked ∷ hand ∷ aside) (add (under q asked) hand) c true
                      (unfold too_large in (sym y ∙ sum_tests ∙ ap (λ (m : ℕ). not (ltb work_bound m)) (reach_cells (reach_cons (add (under q asked) hand) (reach_cons (under q asked) h)))))
                      ∙ ap (on c) (sym hand_is);
                }

            pub asks_sum : {ws : List ℕ} → ws ≡ set vs to from → AsksAt q asked s rs n z ws true
            asks_sum h = rw h (record { each = summed })
