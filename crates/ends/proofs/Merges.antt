-- Two slots that become one, from what was pushed; and that this is the end of an if, of a case and of a statement that breaks its rule.
use Prim.Native.Nat.{ℕ, ◌+◌, ◌-◌, ◌<◌, ◌≤◌}
use native.Mathlib.Omega.{arith}
use native.Mathlib.Decide.{ℕ_discrete}
use mathlib.Core.Path.{◌≡◌, refl, sym, ap, ◌∙◌}
use mathlib.Core.Bool.{Bool, true, false, not, cond}
use mathlib.Core.List.{List, ◌∷◌, ◌++◌}
use lib.Dec.{ltb}
use lib.ListN.{length, get_or, set, length-set}
use Rattle.part.specs.PartReq.{PartReq, add}
use Rattle.part.specs.Collect.{cells_of}
use Rattle.part.specs.Count.{same, among}
use Rattle.part.proofs.Distinct.{or_left}
use Rattle.part.proofs.Counting.{same_refl}
use Rattle.part.proofs.Equations.{never}
use Rattle.clearance.specs.Scope.{Scope}
use Rattle.clearance.specs.Tree.{Act, Tree, act}
use Rattle.clearance.specs.Needs.{kept}
use Rattle.pass.specs.Pass.{work_bound, Carried, Passed, on, full, ◌>>=◌, within, too_large, joining}
use Rattle.framed.specs.Kept.{Kept}
use Rattle.framed.proofs.Kept.{kept_add}
use Rattle.hold.specs.Hold.{held_by, in_slot, Live, Reach}
use Rattle.hold.proofs.Reach.{reach_is, reach_sym, reach_cons, reach_trans, reach_exchange, reach_cells, reach_among}
use Rattle.hold.proofs.Slots.{held_reach, held_same, live_less, live_set, slot_set, slot_other}
use Rattle.standing.specs.Slots.{asked_slot, stack_slot, Ready}
use Rattle.standing.specs.Standing.{passed_by, Stepped, Closed}
use Rattle.standing.proofs.Cases.{case_ends}
use Rattle.standing.proofs.Taken.{within-fits}
use Rattle.ends.specs.Merged.{Merged}

-- the test of a bound decides what goes on
pub by_test : (l : List PartReq) (x : PartReq) (c : Carried) {b : Bool} → b ≡ not (ltb work_bound (cells_of (x ∷ (l ++ c.table)))) → within l x c ≡ passed_by b c x
unfolding within too_large
by_test l x c {b} e = go (ltb work_bound (cells_of (x ∷ (l ++ c.table)))) e
  where
    go : (q : Bool) → b ≡ not q → cond q full (on c x) ≡ passed_by b c x
    go true e = rw e
    go false e = rw e

-- two slots above those that reach what is kept
pub two_above : (s rs : List ℕ) (n : ℕ) {l : List PartReq} → 0 < n → n + 1 ≤ length rs → Reach (held_by s rs (n - 1)) l → Reach (held_by s rs (n + 1)) (in_slot s rs n ∷ in_slot s rs (n - 1) ∷ l)
two_above s rs n {l} pos few h =
    let e : (n - 1) + 1 ≡ n = omega arith in
    reach_trans (held_reach s rs n (omega arith)) (reach_cons (in_slot s rs n) (reach_trans (rw e at (held_reach s rs (n - 1) (omega arith))) (reach_cons (in_slot s rs (n - 1)) h)))

-- slots below that are kept, and a need at hand
pub ready_kept : {S : Scope} {s rs t us : List ℕ} {n m : ℕ} → Ready S s rs m → n ≤ m → stack_slot < n → Live t us n → ((l : ℕ) → l + 1 < n → in_slot t us l ≡ in_slot s rs l) →
    Kept S (in_slot t us (n - 1)) → Ready S t us n
ready_kept {S} {s} {rs} {t} {us} {n} d h high v g z = record {
  live = v;
  high = high;
  needs = λ j l o.
      elim (ℕ_discrete j (n - 1)) [
        | yes e ↦ rw e z
        | no e ↦ rw (g j (omega arith)) (d.needs j (omega arith) o)
      ];
  asked = rw (g asked_slot (omega arith)) d.asked;
}

last_two : (n i : ℕ) → stack_slot < n → n ≤ i + 1 → i ≡ asked_slot → ⊥
last_two n i high h e = omega arith

module _ {S : Scope} {s rs t us : List ℕ} {n : ℕ} {r : Bool} (d : Ready S s rs (n + 1)) (high : stack_slot < n) where
  -- the slot i and the slot j are the last two
  module _ (i j : ℕ) (li : i < n + 1) (lj : j < n + 1) (oi : i ≡ asked_slot → ⊥) (oj : j ≡ asked_slot → ⊥) (w : Merged s rs n i j t us r) where
    merged_ready : r ≡ true → Ready S t us n
    merged_ready e = ready_kept d (omega arith) high (w.live e) (w.kept e) (rw (w.hand e) (kept_add S (in_slot s rs i) (in_slot s rs j) (d.needs i li oi) (d.needs j lj oj)))

    -- what goes on, with `aside` what is kept besides
    merged_is : (aside : List PartReq) (c : Carried) → Reach (held_by s rs (n + 1)) (aside ++ c.table) →
        within aside (add (in_slot s rs i) (in_slot s rs j)) c ≡ passed_by r c (in_slot t us (n - 1))
    merged_is aside c h = by_test aside (add (in_slot s rs i) (in_slot s rs j)) c (w.is ∙ ap (λ z. not (ltb work_bound z)) (reach_cells (reach_cons _ h))) ∙ hand_on r w.hand
      where
        hand_on : (b : Bool) → (b ≡ true → in_slot t us (n - 1) ≡ add (in_slot s rs i) (in_slot s rs j)) → passed_by b c (add (in_slot s rs i) (in_slot s rs j)) ≡ passed_by b c (in_slot t us (n - 1))
        hand_on true f = ap (on c) (sym (f refl))
        hand_on false f = refl

  -- a case ends, or both blocks of an if
  pub case_closed : Merged s rs n n (n - 1) t us r → Closed S case_ends s rs n t us r
  unfolding joining
  case_closed w = record {
    cells = w.cells;
    slots = w.slots;
    ready = merged_ready n (n - 1) (omega arith) (omega arith) (last_two n n high (omega arith)) (last_two n (n - 1) high (omega arith)) w;
    kept = w.kept;
    is = λ aside c h. merged_is n (n - 1) (omega arith) (omega arith) (last_two n n high (omega arith)) (last_two n (n - 1) high (omega arith)) w (in_slot s rs n ∷ in_slot s rs (n - 1) ∷ aside) c (two_above s rs n (omega arith) d.live.loose.few h);
  }

  -- a statement that breaks its rule ends: it keeps the needs after it as well
  pub broken_closed : (a : Tree) → ((m x : PartReq) → kept a m x ≡ add m x) → Merged s rs n (n - 1) n t us r → Closed S (λ aside m x c. within (m ∷ x ∷ aside) (kept a m x) c) s rs n t us r
  broken_closed a k w = record {
    cells = w.cells;
    slots = w.slots;
    ready = merged_ready (n - 1) n (omega arith) (omega arith) (last_two n (n - 1) high (omega arith)) (last_two n n high (omega arith)) w;
    kept = w.kept;
    is = λ aside c h.
        rw (k (in_slot s rs (n - 1)) (in_slot s rs n))
        (merged_is (n - 1) n (omega arith) (omega arith) (last_two n (n - 1) high (omega arith)) (last_two n n high (omega arith)) w (in_slot s rs (n - 1) ∷ in_slot s rs n ∷ aside) c
        (reach_trans (two_above s rs n (omega arith) d.live.loose.few h) (reach_exchange (in_slot s rs n) (in_slot s rs (n - 1)) (aside ++ c.table))));
  }

pub reach_double : (p : PartReq) (l : List PartReq) → Reach (p ∷ p ∷ l) (p ∷ l)
unfolding among
reach_double p l = reach_among p (p ∷ l) (or_left (same p p) _ (same_refl p))

-- an act that breaks its rule keeps nothing more
pub act-closed : {S : Scope} {s rs : List ℕ} {n : ℕ} (x : Act) → Ready S s rs (n + 1) → stack_slot < n →
    Closed S (λ aside m y c. within (m ∷ y ∷ aside) (kept (act x) m y) c) s rs n s (set rs (n - 1) (get_or rs n 0)) true
unfolding kept
act-closed {S} {s} {rs} {n} x d high =
    let f = d.live.loose.few in
    let e = slot_set s rs (n - 1) (get_or rs n 0) (omega arith) in
    let k : (l : ℕ) → l + 1 < n → in_slot s (set rs (n - 1) (get_or rs n 0)) l ≡ in_slot s rs l = λ l m. slot_other s rs (n - 1) (get_or rs n 0) l (λ z. omega arith) in
    let v = live_set {n = n} (live_less d.live (omega arith)) (n - 1) (d.live.loose.pieces n (omega arith)) in
    record {
      cells = refl;
      slots = length-set rs (n - 1) _;
      ready = λ _. ready_kept d (omega arith) high v k (rw e (d.needs n (omega arith) (λ z. omega arith)));
      kept = λ _. k;
      is = λ aside c h.
          within-fits (in_slot s rs (n - 1) ∷ in_slot s rs n ∷ aside) d.live
          (reach_trans (two_above s rs n (omega arith) f h) (reach_trans (reach_sym (reach_double (in_slot s rs n) (in_slot s rs (n - 1) ∷ (aside ++ c.table)))) (reach_cons (in_slot s rs n) (reach_exchange (in_slot s rs n) (in_slot s rs (n - 1)) (aside ++ c.table)))))
          ∙ ap (on c) (sym e);
    }

-- what is done with the needs at hand after two slots have become one
pub closed_then : {S : Scope} {f : List PartReq → PartReq → PartReq → Carried → Passed} {g : List PartReq → PartReq → Carried → Passed} {s rs t us u ws : List ℕ} {n : ℕ} {a b : Bool} → 0 < n → n ≤ length rs →
    Closed S f s rs n t us a → a ≡ true → Stepped S g t us n u ws b → Closed S (λ aside m x c. f aside m x c >>= λ d y. g aside y d) s rs n u ws b
closed_then {S} {f} {g} {s} {rs} {t} {us} {u} {ws} {n} {a} {b} pos few w e v = record {
  cells = v.cells ∙ w.cells;
  slots = v.slots ∙ w.slots;
  ready = v.ready;
  kept = λ i j l. v.kept i j l ∙ w.kept e j l;
  is = λ aside c h.
      ap (λ o. o >>= λ d y. g aside y d) (w.is aside c h ∙ ap (λ z. passed_by z c (in_slot t us (n - 1))) e)
      ∙ v.is aside c (reach_trans (reach_is (held_same s rs t us (n - 1) (omega arith) (omega (arith, w.slots)) (λ j l. w.kept e j (omega arith)))) h);
}

pub closed_short : {S : Scope} {f : List PartReq → PartReq → PartReq → Carried → Passed} (g : List PartReq → PartReq → Carried → Passed) {s rs t us : List ℕ} {n : ℕ} {a : Bool} →
    Closed S f s rs n t us a → a ≡ false → Closed S (λ aside m x c. f aside m x c >>= λ d y. g aside y d) s rs n t us false
closed_short {S} {f} g {s} {rs} {t} {us} {n} w e = record {
  cells = w.cells;
  slots = w.slots;
  ready = λ i. never i;
  kept = λ i. never i;
  is = λ aside c h. ap (λ o. o >>= λ d y. g aside y d) (w.is aside c h ∙ ap (λ z. passed_by z c (in_slot t us (n - 1))) e);
}
