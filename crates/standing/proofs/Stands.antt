-- What stands in memory goes on: after a step that keeps the slots aside, with one slot more kept aside or two, at a point.
use Prim.Native.Nat.{ℕ, ◌+◌, ◌-◌, ◌<◌, ◌≤◌}
use native.Mathlib.Omega.{arith}
use mathlib.Core.Path.{◌≡◌, refl, ap, ◌∙◌}
use mathlib.Core.Bool.{◌||◌}
use mathlib.Core.List.{List, ◌∷◌, ◌++◌}
use lib.ListN.{length}
use Rattle.part.specs.PartReq.{PartReq, over}
use Rattle.clearance.specs.Scope.{Scope}
use Rattle.clearance.specs.Needs.{Exit, next, broke, continued, returned, upon}
use Rattle.pass.specs.Pass.{Carried, too_many, point}
use Rattle.hold.specs.Hold.{held_by, in_slot, Reach}
use Rattle.hold.proofs.Reach.{reach_trans, reach_is, reach_cons, reach_append}
use Rattle.standing.specs.Slots.{table_size, asked_slot, stack_slot, aside_of, Ready}
use Rattle.standing.specs.Standing.{Carries, TableIn, Targets, Stands, Noted, Keeps}
use Rattle.standing.specs.Passing.{Passing}
use Rattle.standing.specs.Exits.{Exits}
use Rattle.standing.proofs.Aside.{beside_high, beside_low, held_apart, held_last, aside_more, aside_same, new_table}

pub keeps_refl : (s rs : List ℕ) (n : ℕ) → Keeps s rs s rs n
keeps_refl s rs n = record { is = λ j l b. refl }

pub keeps_trans : {s rs t us u ws : List ℕ} {n m : ℕ} → n ≤ m → Keeps s rs t us n → Keeps t us u ws m → Keeps s rs u ws n
keeps_trans h a b = record { is = λ j l d. b.is j (omega arith) d ∙ a.is j l d }

-- where the needs by exit stand, but for those at the end
pub record Leads (k : Exit → PartReq) (s rs : List ℕ) (x : Exits) : Type 0 where
  pub broke : in_slot s rs x.broke ≡ k broke
  pub continued : in_slot s rs x.continued ≡ k continued
  pub returned : in_slot s rs x.returned ≡ k returned

pub carries_point : {p q : Passing} {c : Carried} (m : PartReq) → Noted m p q → Carries p c → Carries q (point m c)
unfolding point
carries_point m h a = record {
  fault = rw h.fault a.fault;
  held = h.held ∙ a.held;
  deep = h.deep ∙ ap (λ b. over m || b) a.deep;
  wide = h.wide ∙ ap (λ b. too_many m || b) a.wide;
}

-- the first n slots reach what is kept aside in them and the table do
pub held_aside : {s rs : List ℕ} {aside : List PartReq} {c : Carried} (n : ℕ) → asked_slot ≤ n → n ≤ length rs → Reach (aside_of s rs n) aside → TableIn s rs c → Reach (held_by s rs n) (aside ++ c.table)
held_aside {s} {rs} {aside} {c} n low few h g = reach_trans (held_apart s rs n low few) (reach_append h (new_table s rs c g))

module _ {S : Scope} {v : PartReq} {r : ℕ → PartReq} {aside : List PartReq} {k : Exit → PartReq} {c : Carried} {s rs : List ℕ} {n : ℕ} {x : Exits} {p : Passing} where
  -- all slots reach what the needs at hand, those kept aside and the table do
  pub stands_reach : Stands S v r aside k c s rs n x p → Ready S s rs n → Reach (held_by s rs n) (k next ∷ (aside ++ c.table))
  stands_reach h d =
      let e : (n - 1) + 1 ≡ n = omega (arith, d.high) in
      reach_trans (rw e at (held_last s rs (n - 1) (omega (arith, d.high)) (omega (arith, d.live.loose.few, d.high))))
      (rw h.hand (reach_cons (k next) (reach_append h.apart (new_table s rs c h.new))))

  -- and those below the last what is kept aside and the table do
  pub stands_below : Stands S v r aside k c s rs n x p → Ready S s rs n → Reach (held_by s rs (n - 1)) (aside ++ c.table)
  stands_below h d = held_aside (n - 1) (omega (arith, d.high)) (omega (arith, d.live.loose.few)) h.apart h.new

  -- at a point
  pub stands_point : {q : Passing} → Stands S v r aside k c s rs n x p → Noted (in_slot s rs (n - 1)) p q → Stands S v r aside k (point (k next) c) s rs n x q
  unfolding point
  stands_point h w = record {
    value = h.value;
    old = h.old;
    new = record { is = h.new.is; short = h.new.short };
    hand = h.hand;
    broke = h.broke;
    continued = h.continued;
    returned = h.returned;
    apart = h.apart;
    carries = rw h.hand at (carries_point (in_slot s rs (n - 1)) w h.carries);
  }

  -- the exits where the slots aside are kept
  pub leads_on : {t us : List ℕ} → Stands S v r aside k c s rs n x p → Targets n x → Keeps s rs t us n → Leads k t us x
  leads_on h y w = record {
    broke = w.is x.broke y.broke.1 (beside_high _ (omega (arith, y.broke.0))) ∙ h.broke;
    continued = w.is x.continued y.continued.1 (beside_high _ (omega (arith, y.continued.0))) ∙ h.continued;
    returned = w.is x.returned y.returned.1 (beside_high _ (omega (arith, y.returned.0))) ∙ h.returned;
  }

  -- what is kept aside stays
  pub apart_kept : {t us : List ℕ} → Stands S v r aside k c s rs n x p → Keeps s rs t us n → Reach (aside_of t us (n - 1)) aside
  apart_kept {t} {us} h w = reach_trans (reach_is (aside_same s rs t us (n - 1) (λ j l e. w.is j (omega arith) e))) h.apart

  module _ {t us : List ℕ} {d : Carried} {q : Passing} (h : Stands S v r aside k c s rs n x p) (high : stack_slot < n) (w : Keeps s rs t us n) (b : TableIn t us d) (z : Carries q d) where
    apart_on : Reach (aside_of t us (n - 1)) aside
    apart_on = apart_kept h w

    value_on : in_slot t us asked_slot ≡ in_slot s rs asked_slot
    value_on = w.is asked_slot (omega arith) (beside_high asked_slot (omega arith))

    old_on : (j : ℕ) → j < table_size → in_slot t us j ≡ r j
    old_on j l = w.is j (omega arith) (beside_low j l) ∙ h.old j l

    -- after a step
    pub stands_on : Targets n x → Stands S v r aside (upon (in_slot t us (n - 1)) k) d t us n x q
    unfolding upon
    stands_on y =
        let l = leads_on h y w in
        record {
          value = value_on ∙ h.value;
          old = old_on;
          new = b;
          hand = refl;
          broke = l.broke;
          continued = l.continued;
          returned = l.returned;
          apart = apart_on;
          carries = z;
        }

    -- with one slot more kept aside, and one for the needs at hand
    pub stands_one : (y : PartReq) (k' : Exit → PartReq) (x' : Exits) → in_slot t us (n - 1) ≡ y → in_slot t us n ≡ k' next → Leads k' t us x' →
        Stands S v r (y ∷ aside) k' d t us (n + 1) x' q
    stands_one y k' x' e f l =
        let i : (n - 1) + 1 ≡ n = omega arith in
        let o : (n + 1) - 1 ≡ n = omega arith in
        record {
          value = value_on ∙ h.value;
          old = old_on;
          new = b;
          hand = rw o f;
          broke = l.broke;
          continued = l.continued;
          returned = l.returned;
          apart = rw o (reach_trans (rw i at (aside_more t us (n - 1) (omega arith))) (rw e (reach_cons y apart_on)));
          carries = z;
        }

    -- with two slots more
    pub stands_two : (y y' : PartReq) (k' : Exit → PartReq) (x' : Exits) → in_slot t us (n - 1) ≡ y → in_slot t us n ≡ y' → in_slot t us (n + 1) ≡ k' next → Leads k' t us x' →
        Stands S v r (y' ∷ y ∷ aside) k' d t us (n + 2) x' q
    stands_two y y' k' x' e g f l =
        let i : (n - 1) + 1 ≡ n = omega arith in
        let o : (n + 2) - 1 ≡ n + 1 = omega arith in
        record {
          value = value_on ∙ h.value;
          old = old_on;
          new = b;
          hand = rw o f;
          broke = l.broke;
          continued = l.continued;
          returned = l.returned;
          apart =
              rw o
              (reach_trans (aside_more t us n (omega arith))
              (rw g (reach_cons y' (reach_trans (rw i at (aside_more t us (n - 1) (omega arith))) (rw e (reach_cons y apart_on))))));
          carries = z;
        }
