-- Memory stays ready: with fewer slots, one more, a slot that has become another's, one that was pushed.
use Prim.Native.Nat.{ℕ, ◌+◌, ◌<◌, ◌≤◌}
use native.Mathlib.Omega.{arith}
use native.Mathlib.Decide.{ℕ_discrete}
use mathlib.Core.Path.{◌≡◌, sym, ap}
use mathlib.Core.Bool.{Bool, true}
use mathlib.Core.List.{List}
use lib.ListN.{length, set, length-set}
use lib.Seq.{get_or-set_same, get_or-set_other}
use Rattle.part.specs.PartReq.{PartReq}
use Rattle.part.specs.Store.{top, part}
use Rattle.clearance.specs.Scope.{Scope}
use Rattle.framed.specs.Kept.{Kept}
use Rattle.hold.specs.Hold.{in_slot, Live, Pushed}
use Rattle.standing.specs.Slots.{asked_slot, Ready}

-- a slot after a store to another, and to itself
pub slot_other : (s rs : List ℕ) (i j a : ℕ) → (j ≡ i → ⊥) → in_slot s (set rs i a) j ≡ in_slot s rs j
slot_other s rs i j a h = ap (part s) (get_or-set_other rs i j a 0 h)

pub slot_same : (s rs : List ℕ) (i a : ℕ) → i < length rs → in_slot s (set rs i a) i ≡ part s a
slot_same s rs i a h = ap (part s) (get_or-set_same rs i a 0 h)

-- slot j has a piece a that is a need
module _ {S : Scope} {s rs : List ℕ} {n : ℕ} (d : Ready S s rs n) (a : ℕ) (low : a < top s) (need : Kept S (part s a)) where
  set-live : (m j : ℕ) → m ≤ n + 1 → m ≤ length rs → j < length rs → ((i : ℕ) → i < m → (i ≡ j → ⊥) → i < n) → Live s (set rs j a) m
  set-live m j l few h g = record {
    loose = record {
      good = d.live.loose.good;
      few = rw (length-set rs j a) few;
      pieces = λ i b.
          elim (ℕ_discrete i j) [
            | yes e ↦ rw (e, get_or-set_same rs j a 0 h) low
            | no e ↦ rw (get_or-set_other rs j i a 0 e) (d.live.loose.pieces i (g i b e))
          ];
      long = d.live.loose.long;
    };
    slim = d.live.slim;
  }

  set-needs : (m j : ℕ) → j < length rs → ((i : ℕ) → i < m → (i ≡ j → ⊥) → i < n) → (i : ℕ) → i < m → (i ≡ asked_slot → ⊥) → Kept S (in_slot s (set rs j a) i)
  set-needs m j h g i b o =
      elim (ℕ_discrete i j) [
        | yes e ↦ rw (e, slot_same s rs j a h) need
        | no e ↦ rw (slot_other s rs j i a e) (d.needs i (g i b e) o)
      ]

  pub ready_set : (j : ℕ) → (j ≡ asked_slot → ⊥) → j < n → Ready S s (set rs j a) n
  ready_set j o h =
      let f = d.live.loose.few in
      record {
        live = set-live n j (omega arith) f (omega arith) (λ i b _. b);
        high = d.high;
        needs = set-needs n j (omega arith) (λ i b _. b);
        asked = rw (slot_other s rs j asked_slot a (λ e. o (sym e))) d.asked;
      }

  pub ready_open : n < length rs → Ready S s (set rs n a) (n + 1)
  ready_open h =
      let g : (i : ℕ) → i < n + 1 → (i ≡ n → ⊥) → i < n = λ i b e. omega arith in
      let o = d.high in
      record {
        live = set-live (n + 1) n (omega arith) (omega arith) h g;
        high = omega arith;
        needs = set-needs (n + 1) n h g;
        asked = rw (slot_other s rs n asked_slot a (λ e. omega arith)) d.asked;
      }

-- a slot that was pushed
pub ready_pushed : {S : Scope} {s rs t us : List ℕ} {n : ℕ} {p : PartReq} {b : Bool} → Ready S s rs n → Kept S p → Pushed s rs n p t us b → b ≡ true → Ready S t us (n + 1)
ready_pushed {S} {s} {rs} {t} {us} {n} {p} d need w e = record {
  live = w.live e;
  high = omega (arith, d.high);
  needs = λ j l o.
      elim (ℕ_discrete j n) [
        | yes i ↦ rw (i, w.here e) need
        | no i ↦ rw (w.kept e j (omega arith)) (d.needs j (omega arith) o)
      ];
  asked = rw (w.kept e asked_slot (omega (arith, d.high))) d.asked;
}
