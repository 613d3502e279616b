-- How an if, a statement that breaks its rule, and an exit go on in memory: a slot more is kept aside while a block is walked, and the last two slots become one.
use Prim.Native.Nat.{ℕ, ◌+◌, ◌-◌, ◌<◌, ◌≤◌}
use native.Mathlib.Omega.{arith}
use mathlib.Core.Path.{◌≡◌, sym, ap, ◌∙◌}
use mathlib.Core.Bool.{Bool, true, false}
use mathlib.Core.List.{List, ◌∷◌}
use lib.ListN.{length, get_or, set, length-set}
use Rattle.part.specs.PartReq.{PartReq}
use Rattle.module.specs.Module.{ExpressionHandle}
use Rattle.clearance.specs.Scope.{Scope}
use Rattle.clearance.specs.Tree.{Tree, branch}
use Rattle.clearance.specs.Needs.{Exit, next, upon, ask_whole}
use Rattle.pass.specs.Pass.{Carried, Passed, full, ◌>>=◌, pointed, joining, asking, pass_inside}
use Rattle.hold.specs.Hold.{in_slot, Reach}
use Rattle.standing.specs.Slots.{table_size, stack_slot, aside_of, Ready}
use Rattle.standing.specs.Standing.{setting_of, TableIn, Targets, Stands, Went, Walked, Closed, Keeps, inside, around}
use Rattle.standing.specs.Passing.{Passing}
use Rattle.standing.specs.Exits.{Exits}
use Rattle.standing.proofs.Aside.{beside_high}
use Rattle.standing.proofs.Stands.{leads_on, held_aside, apart_kept, stands_one}
use Rattle.standing.proofs.Readies.{slot_other, slot_same, ready_set, ready_open}
use Rattle.standing.proofs.Walks.{went_is, went_stands, walked_full, walked_on}

-- a store to the last slot or above it keeps those below
pub keeps_set : (s rs : List ℕ) (n j a : ℕ) → n ≤ j + 1 → Keeps s rs s (set rs j a) n
keeps_set s rs n j a h = record { is = λ i l b. slot_other s rs j i a (λ e. omega arith) }

-- the exits' slots are below the last of more slots
pub targets_more : {n m : ℕ} {x : Exits} → Targets n x → n ≤ m → Targets m x
targets_more y h = record {
  broke = (y.broke.0, omega (arith, y.broke.1));
  continued = (y.continued.0, omega (arith, y.continued.1));
  returned = (y.returned.0, omega (arith, y.returned.1));
}

-- the table where all slots below are kept
pub table_kept : {s rs t us : List ℕ} {n : ℕ} {c : Carried} → stack_slot < n → ((j : ℕ) → j + 1 < n → in_slot t us j ≡ in_slot s rs j) → TableIn s rs c → TableIn t us c
table_kept high g h = record { is = λ j l. g (table_size + j) (omega arith) ∙ h.is j l; short = h.short }

-- the last two slots become one
pub closed_went : {S : Scope} {f : List PartReq → PartReq → PartReq → Carried → Passed} {s rs t us : List ℕ} {n : ℕ} {b : Bool} → Closed S f s rs n t us b → b ≡ true → Ready S s rs (n + 1) → stack_slot < n →
    {v : PartReq} {r : ℕ → PartReq} {aside : List PartReq} {k : Exit → PartReq} {c : Carried} {x : Exits} {q : Passing} (y : PartReq) → in_slot s rs (n - 1) ≡ y → Reach (aside_of s rs (n - 1)) aside →
    Stands S v r (y ∷ aside) k c s rs (n + 1) x q → Went (f aside y (k next) c) t us n q
closed_went {S} {f} {s} {rs} {t} {us} {n} {b} w g d high {v} {r} {aside} {k} {c} y e l h =
    let o : (n + 1) - 1 ≡ n = omega arith in
    let z : in_slot s rs n ≡ k next = rw o at h.hand in
    record {
      carried = c;
      is = rw (e, z, g) at (w.is aside c (held_aside (n - 1) (omega arith) (omega (arith, d.live.loose.few)) l h.new));
      carries = h.carries;
      new = table_kept high (w.kept g) h.new;
    }

pub closed_full : {S : Scope} {f : List PartReq → PartReq → PartReq → Carried → Passed} {s rs t us : List ℕ} {n : ℕ} {b : Bool} → Closed S f s rs n t us b → b ≡ false → Ready S s rs (n + 1) → stack_slot < n →
    {v : PartReq} {r : ℕ → PartReq} {aside : List PartReq} {k : Exit → PartReq} {c : Carried} {x : Exits} {q : Passing} (y : PartReq) → in_slot s rs (n - 1) ≡ y → Reach (aside_of s rs (n - 1)) aside →
    Stands S v r (y ∷ aside) k c s rs (n + 1) x q → f aside y (k next) c ≡ full
closed_full {S} {f} {s} {rs} {t} {us} {n} {b} w g d high {v} {r} {aside} {k} {c} y e l h =
    let o : (n + 1) - 1 ≡ n = omega arith in
    let z : in_slot s rs n ≡ k next = rw o at h.hand in
    rw (e, z, g) at (w.is aside c (held_aside (n - 1) (omega arith) (omega (arith, d.live.loose.few)) l h.new))

-- If

-- reject is walked with the needs after the if kept aside, accept with reject's; then both are joined and the condition is needed
abbrev pub ending : Scope → ExpressionHandle → List PartReq → PartReq → PartReq → Carried → Passed
ending S x aside m a c = joining aside a m c >>= λ g u. asking S aside (ask_whole x) u g

module _ {S : Scope} {s rs : List ℕ} {n : ℕ} {x : Exits} (d : Ready S s rs n) (y : Targets n x) (room : n < length rs) where
  -- a copy of the needs at hand above them
  pub copied_ready : Ready S s (set rs n (get_or rs (n - 1) 0)) (n + 1)
  copied_ready =
      let h = d.high in
      ready_open d (get_or rs (n - 1) 0) (d.live.loose.pieces (n - 1) (omega arith)) (d.needs (n - 1) (omega arith) (λ e. omega arith)) room

  pub copied_stands : {v : PartReq} {r : ℕ → PartReq} {aside : List PartReq} {k : Exit → PartReq} {c : Carried} {p : Passing} →
      Stands S v r aside k c s rs n x p → Stands S v r (k next ∷ aside) k c s (set rs n (get_or rs (n - 1) 0)) (n + 1) x p
  copied_stands {v} {r} {aside} {k} {c} {p} h =
      let high = d.high in
      let w = keeps_set s rs n n (get_or rs (n - 1) 0) (omega arith) in
      stands_one h high w (table_kept high (λ j l. slot_other s rs n j _ (λ e. omega arith)) h.new) h.carries (k next) k x
      (slot_other s rs n (n - 1) _ (λ e. omega arith) ∙ h.hand)
      (slot_same s rs n _ room ∙ h.hand)
      (leads_on h y w)

-- the last two of n + 1 slots, exchanged
abbrev pub exchanged : List ℕ → ℕ → List ℕ
exchanged rs n = set (set rs n (get_or rs (n - 1) 0)) (n - 1) (get_or rs n 0)

exchanged-length : (us : List ℕ) (n : ℕ) → length (exchanged us n) ≡ length us
exchanged-length us n = length-set (set us n (get_or us (n - 1) 0)) (n - 1) _ ∙ length-set us n _

module _ {S : Scope} {t us : List ℕ} {n : ℕ} (d : Ready S t us (n + 1)) (high : stack_slot < n) where
  room_of : n < length us
  room_of = omega (arith, d.live.loose.few)

  pub exchanged-ready : Ready S t (exchanged us n) (n + 1)
  exchanged-ready =
      let f = room_of in
      let a = ready_set d (get_or us (n - 1) 0) (d.live.loose.pieces (n - 1) (omega arith)) (d.needs (n - 1) (omega arith) (λ e. omega arith)) n (λ e. omega arith) (omega arith) in
      ready_set a (get_or us n 0) (d.live.loose.pieces n (omega arith)) (d.needs n (omega arith) (λ e. omega arith)) (n - 1) (λ e. omega arith) (omega arith)

  pub exchanged-last : in_slot t (exchanged us n) n ≡ in_slot t us (n - 1)
  exchanged-last =
      let f = room_of in
      slot_other t (set us n (get_or us (n - 1) 0)) (n - 1) n _ (λ e. omega arith) ∙ slot_same t us n _ f

  pub exchanged_before : in_slot t (exchanged us n) (n - 1) ≡ in_slot t us n
  exchanged_before =
      let f = room_of in
      slot_same t (set us n (get_or us (n - 1) 0)) (n - 1) _ (rw (length-set us n (get_or us (n - 1) 0)) (omega arith))

  pub exchanged-below : (j : ℕ) → j + 1 < n → in_slot t (exchanged us n) j ≡ in_slot t us j
  exchanged-below j l =
      slot_other t (set us n (get_or us (n - 1) 0)) (n - 1) j _ (λ e. omega arith) ∙ slot_other t us n j _ (λ e. omega arith)

module _ {S : Scope} {s rs : List ℕ} {n : ℕ} {x : Exits} (d : Ready S s rs n) (y : Targets n x) (room : n < length rs) (a b : Tree) (e : ExpressionHandle) {p q₁ : Passing} {t₁ us₁ : List ℕ}
    (first : Walked S (around b) s (set rs n (get_or rs (n - 1) 0)) (n + 1) x p t₁ us₁ q₁) where
  pub rejected_full : q₁.full ≡ true → Walked S (inside (branch e a b)) s rs n x p t₁ us₁ q₁
  unfolding pass_inside
  rejected_full g =
      walked_full first.cells (first.slots ∙ length-set rs n _) g
      (λ v r aside k c h.
      ap (λ o. o >>= λ d m. pointed (k next) (pass_inside (setting_of S v) r a (m ∷ aside) k) d >>= λ f i. ending S e aside m i f)
      ((first.is v r (k next ∷ aside) k c (copied_stands d y room h)).full g))

  module _ (g₁ : q₁.full ≡ false) where
    pub rejected_ready : Ready S t₁ (exchanged us₁ n) (n + 1)
    rejected_ready = exchanged-ready (first.ready g₁) d.high

    rejected_last : in_slot t₁ us₁ (n - 1) ≡ in_slot s rs (n - 1)
    rejected_last =
        let h = d.high in
        (first.kept g₁).is (n - 1) (omega arith) (beside_high (n - 1) (omega arith)) ∙ slot_other s rs n (n - 1) _ (λ e. omega arith)

    rejected_keeps : Keeps s rs t₁ (exchanged us₁ n) n
    rejected_keeps = record {
      is = λ j l o. exchanged-below (first.ready g₁) d.high j l ∙ (first.kept g₁).is j (omega arith) o ∙ slot_other s rs n j _ (λ e. omega arith);
    }

    -- what stands before accept
    rejected_stands : {v : PartReq} {r : ℕ → PartReq} {aside : List PartReq} {k : Exit → PartReq} {c : Carried} → Stands S v r aside k c s rs n x p →
        {o : Passed} (w : Went o t₁ us₁ (n + 1) q₁) → Stands S v r (in_slot t₁ us₁ n ∷ aside) k w.carried t₁ (exchanged us₁ n) (n + 1) x q₁
    rejected_stands {k = k} h w =
        let z = first.ready g₁ in
        stands_one h d.high rejected_keeps
        (table_kept d.high (exchanged-below z d.high) w.new)
        w.carries (in_slot t₁ us₁ n) k x
        (exchanged_before z d.high)
        (exchanged-last z d.high ∙ rejected_last ∙ h.hand)
        (leads_on h y rejected_keeps)

    module _ {q₂ : Passing} {t₂ us₂ : List ℕ} (second : Walked S (around a) t₁ (exchanged us₁ n) (n + 1) x q₁ t₂ us₂ q₂) where
      -- the if, once reject is walked
      after_reject : {v : PartReq} {r : ℕ → PartReq} {aside : List PartReq} {k : Exit → PartReq} {c : Carried} (h : Stands S v r aside k c s rs n x p) →
          let w = (first.is v r (k next ∷ aside) k c (copied_stands d y room h)).on g₁ in
          let m : PartReq = in_slot t₁ us₁ n in
          pass_inside (setting_of S v) r (branch e a b) aside k c
          ≡ pointed (k next) (pass_inside (setting_of S v) r a (m ∷ aside) k) w.carried >>= λ f i. ending S e aside m i f
      unfolding pass_inside
      after_reject {v} {r} {aside} {k} {c} h =
          let w = (first.is v r (k next ∷ aside) k c (copied_stands d y room h)).on g₁ in
          let o : (n + 1) - 1 ≡ n = omega arith in
          ap (λ o. o >>= λ d m. pointed (k next) (pass_inside (setting_of S v) r a (m ∷ aside) k) d >>= λ f i. ending S e aside m i f) (rw o at w.is)

      pub accepted_full : q₂.full ≡ true → Walked S (inside (branch e a b)) s rs n x p t₂ us₂ q₂
      accepted_full g =
          walked_full (second.cells ∙ first.cells) (second.slots ∙ exchanged-length us₁ n ∙ first.slots ∙ length-set rs n _) g
          (λ v r aside k c h.
          let w = (first.is v r (k next ∷ aside) k c (copied_stands d y room h)).on g₁ in
          after_reject h
          ∙ ap (λ o. o >>= λ f i. ending S e aside (in_slot t₁ us₁ n) i f)
          ((second.is v r (in_slot t₁ us₁ n ∷ aside) k w.carried (rejected_stands h w)).full g))

      module _ (g₂ : q₂.full ≡ false) {t₃ us₃ : List ℕ} {z : Bool} (last : Closed S (ending S e) t₂ us₂ n t₃ us₃ z) where
        accepted_before : in_slot t₂ us₂ (n - 1) ≡ in_slot t₁ us₁ n
        accepted_before =
            let h = d.high in
            (second.kept g₂).is (n - 1) (omega arith) (beside_high (n - 1) (omega arith)) ∙ exchanged_before (first.ready g₁) d.high

        walked_keeps : Keeps s rs t₂ us₂ n
        walked_keeps = record { is = λ j l o. (second.kept g₂).is j (omega arith) o ∙ rejected_keeps.is j l o }

        accepted_keeps : z ≡ true → Keeps s rs t₃ us₃ n
        accepted_keeps i = record {
          is = λ j l o. last.kept i j l ∙ (second.kept g₂).is j (omega arith) o ∙ rejected_keeps.is j l o;
        }

        -- the if, once both blocks are walked, and what stands then
        after_accept : {v : PartReq} {r : ℕ → PartReq} {aside : List PartReq} {k : Exit → PartReq} {c : Carried} (h : Stands S v r aside k c s rs n x p) →
            (f : Carried) × (pass_inside (setting_of S v) r (branch e a b) aside k c ≡ ending S e aside (in_slot t₁ us₁ n) (in_slot t₂ us₂ n) f)
            × Stands S v r (in_slot t₁ us₁ n ∷ aside) (upon (in_slot t₂ us₂ n) k) f t₂ us₂ (n + 1) x q₂
        after_accept {v} {r} {aside} {k} {c} h =
            let high = d.high in
            let o : (n + 1) - 1 ≡ n = omega arith in
            let w = (first.is v r (k next ∷ aside) k c (copied_stands d y room h)).on g₁ in
            let l = rejected_stands h w in
            let u = (second.is v r (in_slot t₁ us₁ n ∷ aside) k w.carried l).on g₂ in (
              u.carried,
              after_reject h ∙ ap (λ o. o >>= λ f i. ending S e aside (in_slot t₁ us₁ n) i f) (rw o at u.is),
              rw o at (went_stands (omega arith) (targets_more y (omega arith)) l (second.kept g₂) u),
            )

        pub walked_if : z ≡ true → Walked S (inside (branch e a b)) s rs n x p t₃ us₃ q₂
        unfolding upon
        walked_if i =
            walked_on (last.cells ∙ second.cells ∙ first.cells) (last.slots ∙ second.slots ∙ exchanged-length us₁ n ∙ first.slots ∙ length-set rs n _) g₂ (last.ready i) (accepted_keeps i)
            (λ v r aside k c h.
            let l = after_accept h in
            went_is (sym l.1) (closed_went last i (second.ready g₂) d.high (in_slot t₁ us₁ n) accepted_before (apart_kept h walked_keeps) l.2))

        pub if_full : z ≡ false → {q : Passing} → q.full ≡ true → Walked S (inside (branch e a b)) s rs n x p t₃ us₃ q
        unfolding upon
        if_full i g =
            walked_full (last.cells ∙ second.cells ∙ first.cells) (last.slots ∙ second.slots ∙ exchanged-length us₁ n ∙ first.slots ∙ length-set rs n _) g
            (λ v r aside k c h. let l = after_accept h in l.1 ∙ closed_full last i (second.ready g₂) d.high (in_slot t₁ us₁ n) accepted_before (apart_kept h walked_keeps) l.2)
