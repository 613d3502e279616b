-- The cases of a switch in memory: below the needs at hand stand the union so far and, below it, the needs after the switch.
use Prim.Native.Nat.{ℕ, zero, suc, ◌+◌, ◌-◌, ◌<◌}
use native.Mathlib.Omega.{arith}
use mathlib.Core.Path.{◌≡◌, refl, sym, ap, ◌∙◌}
use mathlib.Core.Bool.{Bool, true, false}
use mathlib.Core.List.{List, ◌∷◌}
use lib.ListN.{length, get_or, set, length-set}
use Rattle.part.specs.PartReq.{PartReq, none}
use Rattle.part.proofs.Pieces.{part-2}
use Rattle.module.specs.Module.{ExpressionHandle}
use Rattle.clearance.specs.Scope.{Scope}
use Rattle.clearance.specs.Tree.{Tree, switch}
use Rattle.clearance.specs.Needs.{Exit, next, broke, continued, returned, upon, out_break, of_case, ask_whole}
use Rattle.pass.specs.Pass.{Carried, Passed, on, ◌>>=◌, pointed, joining, asking, pass_cases, pass_inside}
use Rattle.framed.specs.Kept.{Kept}
use Rattle.hold.specs.Hold.{in_slot}
use Rattle.standing.specs.Slots.{Ready}
use Rattle.standing.specs.Standing.{setting_of, Targets, Stands, Went, Walked, Closed, Keeps, inside, around, cases}
use Rattle.standing.specs.Passing.{Passing}
use Rattle.strays.specs.Exits.{case_to}
use Rattle.standing.specs.Exits.{Exits}
use Rattle.standing.proofs.Aside.{beside_high}
use Rattle.standing.proofs.Stands.{keeps_refl, leads_on, apart_kept, stands_one}
use Rattle.standing.proofs.Readies.{slot_other, slot_same, ready_open}
use Rattle.standing.proofs.Walks.{went_is, went_stands, walked_full, walked_on}
use Rattle.standing.proofs.Arms.{keeps_set, targets_more, table_kept, closed_went, closed_full}

-- needs by exit are the same where they are at each exit
pub exits_same : (k k' : Exit → PartReq) → k next ≡ k' next → k broke ≡ k' broke → k continued ≡ k' continued → k returned ≡ k' returned → k ≡ k'
exits_same k k' a b c d = λ i x. at_each x i
  where
    at_each : (x : Exit) → k x ≡ k' x
    at_each next = a
    at_each broke = b
    at_each continued = c
    at_each returned = d

-- the end of a case: its needs are joined to the union
abbrev pub case_ends : List PartReq → PartReq → PartReq → Carried → Passed
case_ends aside u m c = joining aside m u c

module _ {S : Scope} {s rs : List ℕ} {n : ℕ} {x : Exits} (d : Ready S s rs n) (y : Targets n x) (f : ℕ → Tree) {p : Passing} where
  -- no case yet: the union is none
  pub cases_start : p.full ≡ false → in_slot s rs (n - 1) ≡ none → Walked S (cases zero f) s rs n x p s rs p
  unfolding pass_cases
  cases_start g e =
      walked_on refl refl g d (keeps_refl s rs n)
      (λ v r aside k c h. record { carried = c; is = ap (on c) (sym e); carries = h.carries; new = h.new })

  module _ (i : ℕ) {t us : List ℕ} {q : Passing} (first : Walked S (cases i f) s rs n x p t us q) (g : q.full ≡ false) (room : n < length us) where
    -- the needs after the switch are at hand before a case
    pub case_ready : Ready S t (set us n (get_or us x.broke 0)) (n + 1)
    case_ready =
        let z = first.ready g in
        ready_open z (get_or us x.broke 0) (z.live.loose.pieces x.broke (omega (arith, y.broke.1))) (z.needs x.broke (omega (arith, y.broke.1)) (λ e. omega (arith, y.broke.0))) room

    case_stands : {v : PartReq} {r : ℕ → PartReq} {aside : List PartReq} {k : Exit → PartReq} {c : Carried} (h : Stands S v r aside k c s rs n x p) →
        {o : Passed} (w : Went o t us n q) → Stands S v r (in_slot t us (n - 1) ∷ aside) (upon (k broke) k) w.carried t (set us n (get_or us x.broke 0)) (n + 1) x q
    unfolding upon
    case_stands {k = k} h w =
        let high = d.high in
        let z = went_stands high y h (first.kept g) w in
        let l = keeps_set t us n n (get_or us x.broke 0) (omega arith) in
        let b = leads_on z y l in
        stands_one z high l (table_kept high (λ j l. slot_other t us n j _ (λ e. omega arith)) w.new) w.carries (in_slot t us (n - 1)) (upon (k broke) k) x
        (slot_other t us n (n - 1) _ (λ e. omega arith))
        (slot_same t us n _ room ∙ (leads_on h y (first.kept g)).broke)
        (record { broke = b.broke; continued = b.continued; returned = b.returned })

    module _ {t₁ us₁ : List ℕ} {q₁ : Passing} (second : Walked S (around (f i)) t (set us n (get_or us x.broke 0)) (n + 1) x q t₁ us₁ q₁) where
      -- the cases, once the first i are walked
      after_cases : {v : PartReq} {r : ℕ → PartReq} {aside : List PartReq} {k : Exit → PartReq} {c : Carried} (h : Stands S v r aside k c s rs n x p) →
          let w = (first.is v r aside k c h).on g in
          pass_cases (suc i) (λ j aside'. pointed (k broke) (pass_inside (setting_of S v) r (f j) aside' (upon (k broke) k))) aside c
          ≡ pointed (k broke) (pass_inside (setting_of S v) r (f i) (in_slot t us (n - 1) ∷ aside) (upon (k broke) k)) w.carried >>= λ e m. joining aside m (in_slot t us (n - 1)) e
      unfolding pass_cases
      after_cases {v} {r} {aside} {k} {c} h =
          let w = (first.is v r aside k c h).on g in
          ap (λ o. o >>= λ d u. pointed (k broke) (pass_inside (setting_of S v) r (f i) (u ∷ aside) (upon (k broke) k)) d >>= λ e m. joining aside m u e) w.is

      pub case_full : q₁.full ≡ true → Walked S (cases (suc i) f) s rs n x p t₁ us₁ q₁
      unfolding upon
      case_full e =
          walked_full (second.cells ∙ first.cells) (second.slots ∙ length-set us n _ ∙ first.slots) e
          (λ v r aside k c h.
          let w = (first.is v r aside k c h).on g in
          after_cases h
          ∙ ap (λ o. o >>= λ e m. joining aside m (in_slot t us (n - 1)) e) ((second.is v r (in_slot t us (n - 1) ∷ aside) (upon (k broke) k) w.carried (case_stands h w)).full e))

      module _ (g₁ : q₁.full ≡ false) {t₂ us₂ : List ℕ} {b : Bool} (last : Closed S case_ends t₁ us₁ n t₂ us₂ b) where
        case_keeps : Keeps s rs t₁ us₁ n
        case_keeps = record { is = λ j l o. (second.kept g₁).is j (omega arith) o ∙ slot_other t us n j _ (λ i. omega arith) ∙ (first.kept g).is j l o }

        union_kept : in_slot t₁ us₁ (n - 1) ≡ in_slot t us (n - 1)
        union_kept =
            let h = d.high in
            (second.kept g₁).is (n - 1) (omega arith) (beside_high (n - 1) (omega arith)) ∙ slot_other t us n (n - 1) _ (λ e. omega arith)

        after_case : {v : PartReq} {r : ℕ → PartReq} {aside : List PartReq} {k : Exit → PartReq} {c : Carried} (h : Stands S v r aside k c s rs n x p) →
            (z : Carried) × (pass_cases (suc i) (λ j aside'. pointed (k broke) (pass_inside (setting_of S v) r (f j) aside' (upon (k broke) k))) aside c
            ≡ joining aside (in_slot t₁ us₁ n) (in_slot t us (n - 1)) z)
            × Stands S v r (in_slot t us (n - 1) ∷ aside) (upon (in_slot t₁ us₁ n) (upon (k broke) k)) z t₁ us₁ (n + 1) x q₁
        unfolding upon
        after_case {v} {r} {aside} {k} {c} h =
            let high = d.high in
            let o : (n + 1) - 1 ≡ n = omega arith in
            let w = (first.is v r aside k c h).on g in
            let l = case_stands h w in
            let u = (second.is v r (in_slot t us (n - 1) ∷ aside) (upon (k broke) k) w.carried l).on g₁ in (
              u.carried,
              after_cases h ∙ ap (λ o. o >>= λ e m. joining aside m (in_slot t us (n - 1)) e) (rw o at u.is),
              rw o at (went_stands (omega arith) (targets_more y (omega arith)) l (second.kept g₁) u),
            )

        pub cases_more : b ≡ true → Walked S (cases (suc i) f) s rs n x p t₂ us₂ q₁
        unfolding upon
        cases_more e =
            walked_on (last.cells ∙ second.cells ∙ first.cells) (last.slots ∙ second.slots ∙ length-set us n _ ∙ first.slots) g₁ (last.ready e)
            (record { is = λ j l o. last.kept e j l ∙ (second.kept g₁).is j (omega arith) o ∙ slot_other t us n j _ (λ i. omega arith) ∙ (first.kept g).is j l o })
            (λ v r aside k c h.
            let l = after_case h in
            went_is (sym l.1) (closed_went last e (second.ready g₁) d.high (in_slot t us (n - 1)) union_kept (apart_kept h case_keeps) l.2))

        pub cases-end_full : b ≡ false → {q' : Passing} → q'.full ≡ true → Walked S (cases (suc i) f) s rs n x p t₂ us₂ q'
        unfolding upon
        cases-end_full e g' =
            walked_full (last.cells ∙ second.cells ∙ first.cells) (last.slots ∙ second.slots ∙ length-set us n _ ∙ first.slots) g'
            (λ v r aside k c h. let l = after_case h in l.1 ∙ closed_full last e (second.ready g₁) d.high (in_slot t us (n - 1)) union_kept (apart_kept h case_keeps) l.2)

-- The switch: the needs after it are kept aside, above them the union.
abbrev pub switch_ends : Scope → ExpressionHandle → List PartReq → PartReq → PartReq → Carried → Passed
switch_ends S e aside after u c = asking S aside (ask_whole e) u c

-- needs by exit at the cases: none are joined yet
abbrev casing : (Exit → PartReq) → Exit → PartReq
casing k next = none
casing k broke = k next
casing k continued = k continued
casing k returned = k returned

case-exits : (k : Exit → PartReq) → of_case k ≡ upon (k next) (casing k)
unfolding of_case out_break upon
case-exits k = exits_same (of_case k) (upon (k next) (casing k)) refl refl refl refl

-- the exits of a case
abbrev pub case_exits : ℕ → Exits → Exits
case_exits n x = case_to (n - 1) x

module _ {S : Scope} {s rs : List ℕ} {n : ℕ} {x : Exits} (d : Ready S s rs n) (y : Targets n x) (room : n < length rs) (none_in : Kept S none) where
  pub case_targets : Targets (n + 1) (case_exits n x)
  case_targets =
      let h = d.high in
      record {
        broke = (omega arith, omega arith);
        continued = (y.continued.0, omega (arith, y.continued.1));
        returned = (y.returned.0, omega (arith, y.returned.1));
      }

  -- the piece 2 is none
  pub union_ready : Ready S s (set rs n 2) (n + 1)
  union_ready = ready_open d 2 (omega (arith, d.live.loose.good.base)) (rw (part-2 s) none_in) room

  pub union_none : in_slot s (set rs n 2) ((n + 1) - 1) ≡ none
  union_none = let o : (n + 1) - 1 ≡ n = omega arith in rw o (slot_same s rs n 2 room ∙ part-2 s)

  switched_stands : {p : Passing} {v : PartReq} {r : ℕ → PartReq} {aside : List PartReq} {k : Exit → PartReq} {c : Carried} → Stands S v r aside k c s rs n x p →
      Stands S v r (k next ∷ aside) (casing k) c s (set rs n 2) (n + 1) (case_exits n x) p
  switched_stands {k = k} h =
      let high = d.high in
      let l = keeps_set s rs n n 2 (omega arith) in
      let b = leads_on h y l in
      stands_one h high l (table_kept high (λ j l. slot_other s rs n j _ (λ e. omega arith)) h.new) h.carries (k next) (casing k) (case_exits n x)
      (slot_other s rs n (n - 1) _ (λ e. omega arith) ∙ h.hand)
      (slot_same s rs n 2 room ∙ part-2 s)
      (record { broke = slot_other s rs n (n - 1) _ (λ e. omega arith) ∙ h.hand; continued = b.continued; returned = b.returned })

  module _ (e : ExpressionHandle) (vs : List ℕ) (f : ℕ → Tree) {p q : Passing} {t us : List ℕ} (first : Walked S (cases (length vs) f) s (set rs n 2) (n + 1) (case_exits n x) p t us q) where
    switched_is : (v : PartReq) (r : ℕ → PartReq) (aside : List PartReq) (k : Exit → PartReq) (c : Carried) →
        pass_inside (setting_of S v) r (switch e vs f) aside k c
        ≡ pass_cases (length vs) (λ j aside'. pointed (k next) (pass_inside (setting_of S v) r (f j) aside' (upon (k next) (casing k)))) (k next ∷ aside) c >>= λ g u. asking S aside (ask_whole e) u g
    unfolding pass_inside of_case out_break
    switched_is v r aside k c = rw (← case-exits k)

    pub switch-full : q.full ≡ true → Walked S (inside (switch e vs f)) s rs n x p t us q
    switch-full g =
        walked_full first.cells (first.slots ∙ length-set rs n _) g
        (λ v r aside k c h. switched_is v r aside k c ∙ ap (λ o. o >>= λ g u. asking S aside (ask_whole e) u g) ((first.is v r (k next ∷ aside) (casing k) c (switched_stands h)).full g))

    module _ (g : q.full ≡ false) {t₁ us₁ : List ℕ} {b : Bool} (last : Closed S (switch_ends S e) t us n t₁ us₁ b) where
      cases_keep : Keeps s rs t us n
      cases_keep = record { is = λ j l o. (first.kept g).is j (omega arith) o ∙ slot_other s rs n j _ (λ e. omega arith) }

      after_kept : in_slot t us (n - 1) ≡ in_slot s rs (n - 1)
      after_kept =
          let h = d.high in
          (first.kept g).is (n - 1) (omega arith) (beside_high (n - 1) (omega arith)) ∙ slot_other s rs n (n - 1) _ (λ e. omega arith)

      after_switch : {v : PartReq} {r : ℕ → PartReq} {aside : List PartReq} {k : Exit → PartReq} {c : Carried} (h : Stands S v r aside k c s rs n x p) →
          (z : Carried) × (pass_inside (setting_of S v) r (switch e vs f) aside k c ≡ asking S aside (ask_whole e) (in_slot t us n) z)
          × Stands S v r (k next ∷ aside) (upon (in_slot t us n) (casing k)) z t us (n + 1) (case_exits n x) q
      after_switch {v} {r} {aside} {k} {c} h =
          let high = d.high in
          let o : (n + 1) - 1 ≡ n = omega arith in
          let l = switched_stands h in
          let w = (first.is v r (k next ∷ aside) (casing k) c l).on g in (
            w.carried,
            switched_is v r aside k c ∙ ap (λ o. o >>= λ g u. asking S aside (ask_whole e) u g) (rw o at w.is),
            rw o at (went_stands (omega arith) case_targets l (first.kept g) w),
          )

      pub walked_switch : b ≡ true → Walked S (inside (switch e vs f)) s rs n x p t₁ us₁ q
      unfolding upon
      walked_switch i =
          walked_on (last.cells ∙ first.cells) (last.slots ∙ first.slots ∙ length-set rs n _) g (last.ready i)
          (record { is = λ j l o. last.kept i j l ∙ (first.kept g).is j (omega arith) o ∙ slot_other s rs n j _ (λ e. omega arith) })
          (λ v r aside k c h.
          let l = after_switch h in
          went_is (sym l.1) (closed_went last i (first.ready g) d.high (k next) (after_kept ∙ h.hand) (apart_kept h cases_keep) l.2))

      pub switch-end_full : b ≡ false → {q' : Passing} → q'.full ≡ true → Walked S (inside (switch e vs f)) s rs n x p t₁ us₁ q'
      unfolding upon
      switch-end_full i g' =
          walked_full (last.cells ∙ first.cells) (last.slots ∙ first.slots ∙ length-set rs n _) g'
          (λ v r aside k c h. let l = after_switch h in l.1 ∙ closed_full last i (first.ready g) d.high (k next) (after_kept ∙ h.hand) (apart_kept h cases_keep) l.2)
