-- How an exit that is taken, and an unmarked statement, go on in memory: no cell is made that is not kept already, or the last two slots become one.
use Prim.Native.Nat.{ℕ, ◌+◌, ◌-◌, ◌<◌, ◌≤◌}
use native.Mathlib.Omega.{arith}
use mathlib.Core.Path.{◌≡◌, refl, sym, ap, ◌∙◌}
use mathlib.Core.Bool.{Bool, true, false}
use mathlib.Core.List.{List, ◌∷◌, ◌++◌}
use mathlib.Core.Option.{some as present, none as absent}
use lib.ListN.{length, get_or, set, length-set}
use Rattle.part.specs.PartReq.{PartReq}
use Rattle.module.specs.Module.{ExpressionHandle}
use Rattle.clearance.specs.Scope.{Scope}
use Rattle.clearance.specs.Tree.{Tree, break, continue, return, unmarked}
use Rattle.clearance.specs.Needs.{Exit, next, upon, of_value, obeys, kept}
use Rattle.clearance.specs.Judged.{lower}
use Rattle.pass.specs.Pass.{Carried, on, ◌>>=◌, blame, within, too_large, asking, valuing, pass_inside}
use Rattle.hold.specs.Hold.{held_by, in_slot, Live, Reach}
use Rattle.hold.proofs.Reach.{reach_cells}
use Rattle.hold.proofs.Slots.{live_within}
use Rattle.standing.specs.Slots.{end_slot, Ready}
use Rattle.standing.specs.Standing.{setting_of, Carries, Targets, Stands, Walked, passed_by, Closed, Blames, Valued, Keeps, inside}
use Rattle.standing.specs.Passing.{Passing}
use Rattle.standing.specs.Exits.{Exits}
use Rattle.standing.proofs.Aside.{beside_high}
use Rattle.standing.proofs.Stands.{keeps_refl, stands_reach, stands_below, apart_kept, stands_on}
use Rattle.standing.proofs.Readies.{slot_other, slot_same, ready_set}
use Rattle.standing.proofs.Walks.{went_is, went_stands, walked_full, walked_on}
use Rattle.standing.proofs.Arms.{keeps_set, targets_more, table_kept, closed_went, closed_full, copied_stands}

-- what the slots reach is within the bound
pub within-fits : {s rs : List ℕ} {n : ℕ} {m : PartReq} (l : List PartReq) {c : Carried} → Live s rs n → Reach (held_by s rs n) (m ∷ (l ++ c.table)) → within l m c ≡ on c m
unfolding within too_large
within-fits {s} {rs} {n} {m} l {c} d h = rw (← reach_cells h, live_within d)

module _ {S : Scope} {s rs : List ℕ} {n : ℕ} {x : Exits} (d : Ready S s rs n) (y : Targets n x) where
  -- the needs at hand become those of a slot that is kept aside
  module _ (e : ℕ) (low : end_slot ≤ e) (below : e + 1 < n) where
    pub taken_ready : Ready S s (set rs (n - 1) (get_or rs e 0)) n
    taken_ready =
        let h = d.high in
        ready_set d (get_or rs e 0) (d.live.loose.pieces e (omega arith)) (d.needs e (omega arith) (λ i. omega arith)) (n - 1) (λ i. omega arith) (omega arith)

    taken_last : in_slot s (set rs (n - 1) (get_or rs e 0)) (n - 1) ≡ in_slot s rs e
    taken_last = slot_same s rs (n - 1) _ (omega (arith, d.live.loose.few, d.high))

    taken_stands : {v : PartReq} {r : ℕ → PartReq} {aside : List PartReq} {k : Exit → PartReq} {c : Carried} {p : Passing} → Stands S v r aside k c s rs n x p →
        Stands S v r aside (upon (in_slot s (set rs (n - 1) (get_or rs e 0)) (n - 1)) k) c s (set rs (n - 1) (get_or rs e 0)) n x p
    taken_stands h =
        stands_on h d.high (keeps_set s rs n (n - 1) _ (omega arith))
        (table_kept d.high (λ j l. slot_other s rs (n - 1) j _ (λ i. omega arith)) h.new) h.carries y

    walked_taken : {p : Passing} (a : Tree) → p.full ≡ false →
        ((v : PartReq) (r : ℕ → PartReq) (aside : List PartReq) (k : Exit → PartReq) (c : Carried) → Stands S v r aside k c s rs n x p →
        pass_inside (setting_of S v) r a aside k c ≡ within aside (in_slot s rs e) c) →
        Walked S (inside a) s rs n x p s (set rs (n - 1) (get_or rs e 0)) p
    unfolding upon
    walked_taken a g f =
        walked_on refl (length-set rs (n - 1) _) g taken_ready (keeps_set s rs n (n - 1) _ (omega arith))
        (λ v r aside k c h.
        let z = taken_stands h in
        record {
          carried = c;
          is = f v r aside k c h ∙ ap (λ m. within aside m c) (sym taken_last) ∙ within-fits aside taken_ready.live (stands_reach z taken_ready);
          carries = h.carries;
          new = z.new;
        })

  pub walked_break : {p : Passing} (l : ℕ) → p.full ≡ false → Walked S (inside (break l)) s rs n x p s (set rs (n - 1) (get_or rs x.broke 0)) p
  unfolding pass_inside
  walked_break l g = walked_taken x.broke y.broke.0 y.broke.1 (break l) g (λ v r aside k c h. ap (λ m. within aside m c) (sym h.broke))

  pub walked_continue : {p : Passing} (l : ℕ) → p.full ≡ false → Walked S (inside (continue l)) s rs n x p s (set rs (n - 1) (get_or rs x.continued 0)) p
  unfolding pass_inside
  walked_continue l g = walked_taken x.continued y.continued.0 y.continued.1 (continue l) g (λ v r aside k c h. ap (λ m. within aside m c) (sym h.continued))

  -- a return without a value
  pub walked_return : {p : Passing} (l : ℕ) → p.full ≡ false → Walked S (inside (return l absent)) s rs n x p s (set rs (n - 1) (get_or rs x.returned 0)) p
  unfolding pass_inside valuing
  walked_return l g = walked_taken x.returned y.returned.0 y.returned.1 (return l absent) g (λ v r aside k c h. ap (λ m. within aside m c) (sym h.returned))

  -- with one
  module _ {p : Passing} (l : ℕ) (e : ExpressionHandle) {t us : List ℕ} {b : Bool} (w : Valued S e s (set rs (n - 1) (get_or rs x.returned 0)) n t us b) where
    returned-stands : {v : PartReq} {r : ℕ → PartReq} {aside : List PartReq} {k : Exit → PartReq} {c : Carried} → Stands S v r aside k c s rs n x p →
        Stands S v r aside (upon (in_slot s (set rs (n - 1) (get_or rs x.returned 0)) (n - 1)) k) c s (set rs (n - 1) (get_or rs x.returned 0)) n x p
    returned-stands h = taken_stands x.returned y.returned.0 y.returned.1 h

    -- the step by definition
    returned-is : {v : PartReq} {r : ℕ → PartReq} {aside : List PartReq} {k : Exit → PartReq} {c : Carried} (h : Stands S v r aside k c s rs n x p) →
        pass_inside (setting_of S v) r (return l (present e)) aside k c ≡ asking S aside (of_value e v) (in_slot s (set rs (n - 1) (get_or rs x.returned 0)) (n - 1)) c
    unfolding pass_inside valuing
    returned-is {v} {r} {aside} {k} {c} h =
        ap (λ m. asking S aside (of_value e v) m c) (sym (taken_last x.returned y.returned.0 y.returned.1 ∙ h.returned))

    returned_step : {v : PartReq} {r : ℕ → PartReq} {aside : List PartReq} {k : Exit → PartReq} {c : Carried} (h : Stands S v r aside k c s rs n x p) →
        pass_inside (setting_of S v) r (return l (present e)) aside k c ≡ passed_by b c (in_slot t us (n - 1))
    unfolding upon
    returned_step {v} {r} {aside} {k} {c} h =
        let z = returned-stands h in
        returned-is h ∙ w.is v z.value aside c (stands_below z (taken_ready x.returned y.returned.0 y.returned.1))

    pub walked_value : p.full ≡ false → b ≡ true → Walked S (inside (return l (present e))) s rs n x p t us p
    walked_value g i =
        walked_on w.cells (w.slots ∙ length-set rs (n - 1) _) g (w.ready i)
        (record { is = λ j m _. w.kept i j m ∙ slot_other s rs (n - 1) j _ (λ o. omega arith) })
        (λ v r aside k c h. record {
          carried = c;
          is = rw i at (returned_step h);
          carries = h.carries;
          new = table_kept d.high (w.kept i) (returned-stands h).new;
        })

    pub value_full : {q : Passing} → q.full ≡ true → b ≡ false → Walked S (inside (return l (present e))) s rs n x p t us q
    value_full g i = walked_full w.cells (w.slots ∙ length-set rs (n - 1) _) g (λ v r aside k c h. rw i at (returned_step h))

  -- an unmarked statement that obeys its rule is passed over
  pub walked_obeys : {p : Passing} (l mark : ℕ) (a : Tree) → p.full ≡ false → obeys S (in_slot s rs (n - 1)) a ≡ true → Walked S (inside (unmarked l mark a)) s rs n x p s rs p
  unfolding pass_inside
  walked_obeys l mark a g o =
      walked_on refl refl g d (keeps_refl s rs n)
      (λ v r aside k c h. record {
        carried = c;
        is = rw (rw h.hand at o) (ap (on c) (sym h.hand));
        carries = h.carries;
        new = h.new;
      })

  -- One that breaks it is walked as if marked, with the needs after it kept aside, and then keeps them as well.
  module _ (room : n < length rs) {p q : Passing} (l mark : ℕ) (a : Tree) (o : obeys S (in_slot s rs (n - 1)) a ≡ false) {t us : List ℕ}
      (first : Walked S (inside a) s (set rs n (get_or rs (n - 1) 0)) (n + 1) x p t us q) where
    -- what it comes to, once it is walked
    broken_is : {v : PartReq} {r : ℕ → PartReq} {aside : List PartReq} {k : Exit → PartReq} {c : Carried} (h : Stands S v r aside k c s rs n x p) →
        pass_inside (setting_of S v) r (unmarked l mark a) aside k c
        ≡ pass_inside (setting_of S v) r a (k next ∷ aside) k c >>= λ d m. within (k next ∷ m ∷ aside) (kept a (k next) m) (blame l d)
    unfolding pass_inside
    broken_is {v} {r} {aside} {k} {c} h = rw (rw h.hand at o)

    pub broken_full : q.full ≡ true → Walked S (inside (unmarked l mark a)) s rs n x p t us q
    broken_full g =
        walked_full first.cells (first.slots ∙ length-set rs n _) g
        (λ v r aside k c h.
        broken_is h
        ∙ ap (λ o. o >>= λ d m. within (k next ∷ m ∷ aside) (kept a (k next) m) (blame l d)) ((first.is v r (k next ∷ aside) k c (copied_stands d y room h)).full g))

    module _ (g : q.full ≡ false) {q' : Passing} (z : Blames l q q') {t₁ us₁ : List ℕ} {b : Bool}
        (last : Closed S (λ aside m i c. within (m ∷ i ∷ aside) (kept a m i) c) t us n t₁ us₁ b) where
      blames_carried : {c : Carried} → Carries q c → Carries q' (blame l c)
      unfolding blame
      blames_carried h = record { fault = z.fault ∙ ap (lower l) h.fault; held = z.held ∙ h.held; deep = z.deep ∙ h.deep; wide = z.wide ∙ h.wide }

      walked_keeps : Keeps s rs t us n
      walked_keeps = record { is = λ j m e. (first.kept g).is j (omega arith) e ∙ slot_other s rs n j _ (λ o. omega arith) }

      before_last : in_slot t us (n - 1) ≡ in_slot s rs (n - 1)
      before_last =
          let h = d.high in
          (first.kept g).is (n - 1) (omega arith) (beside_high (n - 1) (omega arith)) ∙ slot_other s rs n (n - 1) _ (λ e. omega arith)

      blamed_stands : {v : PartReq} {r : ℕ → PartReq} {aside : List PartReq} {k : Exit → PartReq} {c : Carried} → Stands S v r aside k c t us (n + 1) x q → Stands S v r aside k (blame l c) t us (n + 1) x q'
      unfolding blame
      blamed_stands h = record {
        value = h.value;
        old = h.old;
        new = record { is = h.new.is; short = h.new.short };
        hand = h.hand;
        broke = h.broke;
        continued = h.continued;
        returned = h.returned;
        apart = h.apart;
        carries = blames_carried h.carries;
      }

      after_broken : {v : PartReq} {r : ℕ → PartReq} {aside : List PartReq} {k : Exit → PartReq} {c : Carried} (h : Stands S v r aside k c s rs n x p) →
          (f : Carried) × (pass_inside (setting_of S v) r (unmarked l mark a) aside k c ≡ within (k next ∷ in_slot t us n ∷ aside) (kept a (k next) (in_slot t us n)) f)
          × Stands S v r (k next ∷ aside) (upon (in_slot t us n) k) f t us (n + 1) x q'
      after_broken {v} {r} {aside} {k} {c} h =
          let high = d.high in
          let i : (n + 1) - 1 ≡ n = omega arith in
          let f = copied_stands d y room h in
          let w = (first.is v r (k next ∷ aside) k c f).on g in
          let u = went_stands (omega arith) (targets_more y (omega arith)) f (first.kept g) w in (
            blame l w.carried,
            broken_is h ∙ ap (λ o. o >>= λ d m. within (k next ∷ m ∷ aside) (kept a (k next) m) (blame l d)) (rw i at w.is),
            blamed_stands (rw i at u),
          )

      pub walked_broken : b ≡ true → Walked S (inside (unmarked l mark a)) s rs n x p t₁ us₁ q'
      unfolding upon
      walked_broken i =
          walked_on (last.cells ∙ first.cells) (last.slots ∙ first.slots ∙ length-set rs n _) (z.full ∙ g) (last.ready i)
          (record { is = λ j m e. last.kept i j m ∙ (first.kept g).is j (omega arith) e ∙ slot_other s rs n j _ (λ o. omega arith) })
          (λ v r aside k c h.
          let f = after_broken h in
          went_is (sym f.1) (closed_went last i (first.ready g) d.high (k next) (before_last ∙ h.hand) (apart_kept h walked_keeps) f.2))

      pub broken_end_full : b ≡ false → {q'' : Passing} → q''.full ≡ true → Walked S (inside (unmarked l mark a)) s rs n x p t₁ us₁ q''
      unfolding upon
      broken_end_full i e =
          walked_full (last.cells ∙ first.cells) (last.slots ∙ first.slots ∙ length-set rs n _) e
          (λ v r aside k c h. let f = after_broken h in f.1 ∙ closed_full last i (first.ready g) d.high (k next) (before_last ∙ h.hand) (apart_kept h walked_keeps) f.2)
