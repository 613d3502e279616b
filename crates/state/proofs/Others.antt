-- The slots that are not the state's own: they mean the same after a store into one of its own, after a collection, and along steps of both; so what is
-- asked by value and what the totals count for stay. And what the state counts for, by the numbers that are carried.
use Prim.Native.Nat.{ℕ, zero, suc, ◌+◌, ◌*◌, ◌<◌, ◌≤◌}
use native.Mathlib.Omega.{arith}
use mathlib.Core.Path.{◌≡◌, refl, ap, subst, ◌∙◌}
use mathlib.Core.List.{List}
use lib.ListN.{length, get_or, set}
use lib.Seq.{get_or-set_other}
use Rattle.field.specs.Limits.{max_functions}
use Rattle.part.specs.PartReq.{PartReq, none, entries}
use Rattle.part.specs.StoreLimits.{entries_cap}
use Rattle.module.specs.Tables.{row_at, max_items}
use Rattle.context.specs.RequiredContext.{pieces}
use Rattle.walk.specs.State.{sum_of, count, total_pieces}
use Rattle.memory.specs.Layout.{globals_slot, totals_slot, functions_slot, stack_slot}
use Rattle.memory.specs.Memory.{read, sum_from, context_at, Memory, Tidied}
use Rattle.memory.specs.Want.{Still}
use Rattle.memory.proofs.Slots.{read-long, still_read, counted-set}
use Rattle.state.specs.State.{Rest, totals_sum, state_of, sum_in}
use Rattle.state.specs.Ready.{Ready, Elsewhere, Others}
use Rattle.state.specs.Stored.{Stored}
use Rattle.state.proofs.Own.{record_slot, Fits, fits}
use Rattle.state.specs.Frame.{Apart}

-- slots that mean the same count for the same
pub sum_same : (ps qs : List PartReq) (a n : ℕ) → ((j : ℕ) → j < n → get_or ps (a + j) none ≡ get_or qs (a + j) none) → sum_from ps a n ≡ sum_from qs a n
unfolding sum_from
sum_same ps qs a zero h = refl
sum_same ps qs a (suc n) h = rw (sum_same ps qs a n (λ j l. h j (omega arith)), h n (omega arith))

module _ {t : List ℕ} {f at : ℕ} where
  pub others_same : {s rs u us : List ℕ} → length us ≡ length rs → read u us ≡ read s rs → Others t f at s rs u us
  others_same l e = record { long = l; same = λ k h. ap (λ (ps : List PartReq). get_or ps k none) e }

  pub others_trans : {s rs u us v vs : List ℕ} → Others t f at s rs u us → Others t f at u us v vs → Others t f at s rs v vs
  others_trans a b = record { long = b.long ∙ a.long; same = λ k h. b.same k h ∙ a.same k h }

  -- a store into the slot k, one of the state's own
  pub others_set : {s rs u us : List ℕ} {k : ℕ} {q : PartReq} → Stored s rs k q u us → (Elsewhere t f at k → ⊥) → Others t f at s rs u us
  others_set {s} {rs} {u} {us} {k} {q} d own = record {
    long = d.long;
    same = λ j h.
        ap (λ (ps : List PartReq). get_or ps j none) d.reads
        ∙ get_or-set_other (read s rs) k j q none (λ z. own (subst (λ (i : ℕ). Elsewhere t f at i) z h));
  }

  pub own_map : (i : ℕ) → i < 4 → Elsewhere t f at (at + i) → ⊥
  own_map i l h = h.no_context i l refl

  pub own_total : Elsewhere t f at globals_slot → ⊥
  own_total h = h.no_total refl

  pub own_record : (e : ℕ) → e < (row_at t f).expressions → Elsewhere t f at (record_slot t f e) → ⊥
  own_record e l h = h.no_record e l refl

  -- what parts by value name
  pub others_still : {s rs u us : List ℕ} → stack_slot ≤ at → Memory s rs → Others t f at s rs u us → Still s rs u us
  others_still low m o =
      still_read m o.long
      (λ k h. o.same k (record { no_total = omega arith; no_record = λ e l z. omega arith; no_context = λ i l z. omega arith }))

  -- slots that are kept are kept apart
  pub others_apart : {s rs u us : List ℕ} → Others t f at s rs u us → Apart t f at s rs u us
  others_apart o = record { long = o.long; same = λ k l e. o.same k e }

  pub apart_trans : {s rs u us v vs : List ℕ} → Apart t f at s rs u us → Apart t f at u us v vs → Apart t f at s rs v vs
  apart_trans a b = record { long = b.long ∙ a.long; same = λ k l e. b.same k l e ∙ a.same k l e }

  -- the totals
  pub apart_totals : {s rs u us : List ℕ} → Fits t f → stack_slot ≤ at → Apart t f at s rs u us → totals_sum (read u us) ≡ totals_sum (read s rs)
  apart_totals {s} {rs} {u} {us} room low o =
      rw (
        sum_same (read u us) (read s rs) totals_slot max_items (λ j l. kept (totals_slot + j) (omega arith) (omega arith)),
        sum_same (read u us) (read s rs) functions_slot (4 * max_functions) (λ j l. kept (functions_slot + j) (omega arith) (omega arith)),
      )
    where
      kept : (k : ℕ) → totals_slot ≤ k → k < stack_slot → get_or (read u us) k none ≡ get_or (read s rs) k none
      kept k a b =
          o.same k (omega arith) (record { no_total = omega arith; no_record = λ e l z. omega arith; no_context = λ i l z. omega arith })

  pub others_totals : {s rs u us : List ℕ} → Fits t f → stack_slot ≤ at → Others t f at s rs u us → totals_sum (read u us) ≡ totals_sum (read s rs)
  others_totals room low o = apart_totals room low (others_apart o)

-- what 16 counts
pub count_is : (t : List ℕ) (f at held : ℕ) (ps : List PartReq) (rest : Rest) (v sum : ℕ) → sum ≡ sum_in t f ps → total_pieces rest.functions ≡ totals_sum ps
    → count held (state_of t f at ps rest v) ≡ held + (pieces (context_at ps at) + sum)
unfolding sum_of count
count_is t f at held ps rest v sum is h = omega arith

-- what is known of the slots that the state has
module _ {bytes t s rs : List ℕ} {f at held sum : ℕ} (r : Ready bytes t s rs f at held sum) where
  pub ready_fits : Fits t f
  ready_fits = fits f r.was_read r.function

  -- after a store into the slot k
  pub ready_set : {u us : List ℕ} {k m : ℕ} {q : PartReq} → Stored s rs k q u us → globals_slot ≤ k → k < length rs
      → m ≡ sum_in t f (set (read s rs) k q)
      → pieces (context_at (set (read s rs) k q) at) + m + entries (get_or (read s rs) k none) ≡ pieces (context_at (read s rs) at) + sum + entries q
      → held + (pieces (context_at (set (read s rs) k q) at) + m) ≤ entries_cap
      → Ready bytes t u us f at held m
  ready_set {u} {us} {k} {m} {q} d a b is changed few = record {
    was_read = r.was_read;
    function = r.function;
    memory = d.memory;
    low = r.low;
    high = omega (arith, r.high, d.long);
    sums = rw d.reads is;
    owned = rw d.reads (omega (arith, r.owned, counted-set (read s rs) k q a (omega (arith, read-long s rs))));
    small = rw d.reads few;
  }

  -- after a collection
  pub ready_tidied : {u us : List ℕ} → Tidied s rs u us → Ready bytes t u us f at held sum
  ready_tidied d = record {
    was_read = r.was_read;
    function = r.function;
    memory = d.memory;
    low = r.low;
    high = omega (arith, r.high, d.long);
    sums = rw d.same r.sums;
    owned = rw d.same r.owned;
    small = rw d.same r.small;
  }
