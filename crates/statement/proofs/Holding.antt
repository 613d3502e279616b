-- A part put into one of the slots that a statement asks with: the state is the same, and it may be asked.
use Prim.Native.Nat.{ℕ, ◌+◌, ◌-◌, ◌*◌, ◌<◌, ◌≤◌}
use native.Mathlib.Omega.{arith}
use mathlib.Core.Path.{◌≡◌, ap, ◌∙◌}
use mathlib.Core.Bool.{false}
use mathlib.Core.List.{List}
use lib.ListN.{length, get_or, set, length-set}
use lib.Seq.{get_or-set_same, get_or-set_other}
use Rattle.field.specs.Limits.{max_pieces, max_functions}
use Rattle.part.specs.PartReq.{PartReq, none, over, entries}
use Rattle.part.specs.Store.{top, part}
use Rattle.module.specs.Tables.{row_at, expressions_from, max_items}
use Rattle.memory.specs.Layout.{ask, returned, globals_slot, exprs_slot, totals_slot, functions_slot, stack_slot}
use Rattle.memory.specs.Memory.{read, sum_from, counted, context_at}
use Rattle.memory.proofs.Slots.{read_set, sum_outside, hold_memory}
use Rattle.memory.proofs.Records.{records_outside}
use Rattle.state.specs.State.{Rest, records_in, totals_sum, state_of}
use Rattle.state.specs.Ready.{Ready}
use Rattle.state.specs.Frame.{Apart}

-- the slots
module _ (t : List ℕ) (f at : ℕ) (ps : List PartReq) (k : ℕ) (q : PartReq) (low : stack_slot ≤ at) (b : k ≤ returned) where
  context_same : context_at (set ps k q) at ≡ context_at ps at
  context_same =
      rw (
        get_or-set_other ps k at q none (omega arith),
        get_or-set_other ps k (at + 1) q none (omega arith),
        get_or-set_other ps k (at + 2) q none (omega arith),
        get_or-set_other ps k (at + 3) q none (omega arith),
      )

  records_same : records_in t exprs_slot f (set ps k q) ≡ records_in t exprs_slot f ps
  records_same = records_outside ps (exprs_slot + expressions_from (row_at t f)) (row_at t f).expressions k q (λ e l z. omega arith)

  total_same : get_or (set ps k q) globals_slot none ≡ get_or ps globals_slot none
  total_same = get_or-set_other ps k globals_slot q none (omega arith)

  totals_same : totals_sum (set ps k q) ≡ totals_sum ps
  totals_same =
      rw (sum_outside ps k q totals_slot max_items (λ j l e. omega arith), sum_outside ps k q functions_slot (4 * max_functions) (λ j l e. omega arith))

  counted_same : counted (set ps k q) ≡ counted ps
  counted_same =
      ap (λ (n : ℕ). sum_from (set ps k q) globals_slot (n - globals_slot)) (length-set ps k q)
      ∙ sum_outside ps k q globals_slot (length ps - globals_slot) (λ j l e. omega arith)

-- the piece r may be held in the slot k
pub record Holdable (s : List ℕ) (k r : ℕ) : Type 0 where
  pub low : ask ≤ k
  pub high : k ≤ returned
  pub piece : r < top s
  pub few : entries (part s r) ≤ max_pieces + 4
  pub fine : over (part s r) ≡ false

module _ {bytes t s rs : List ℕ} {f at held sum : ℕ} (h : Ready bytes t s rs f at held sum) {k r : ℕ} (q : Holdable s k r) where
  pub hold_inside : k < length rs
  hold_inside = omega (arith, h.memory.slots, q.high)

  pub hold_ready : Ready bytes t s (set rs k r) f at held sum
  hold_ready = record {
    was_read = h.was_read;
    function = h.function;
    memory = hold_memory h.memory q.low q.high q.piece q.few q.fine;
    low = h.low;
    high = omega (arith, h.high, length-set rs k r);
    sums =
        rw (
          read_set s rs k r,
          records_same t f at (read s rs) k (part s r) h.low q.high,
          total_same t f at (read s rs) k (part s r) h.low q.high,
          totals_same t f at (read s rs) k (part s r) h.low q.high,
        )
        h.sums;
    owned =
        rw (
          read_set s rs k r,
          context_same t f at (read s rs) k (part s r) h.low q.high,
          counted_same t f at (read s rs) k (part s r) h.low q.high,
        )
        h.owned;
    small = rw (read_set s rs k r, context_same t f at (read s rs) k (part s r) h.low q.high) h.small;
  }

  pub hold_state : (rest : Rest) (v : ℕ) → state_of t f at (read s (set rs k r)) rest v ≡ state_of t f at (read s rs) rest v
  hold_state rest v =
      rw (
        read_set s rs k r,
        context_same t f at (read s rs) k (part s r) h.low q.high,
        records_same t f at (read s rs) k (part s r) h.low q.high,
        total_same t f at (read s rs) k (part s r) h.low q.high,
      )

  pub hold_totals : totals_sum (read s (set rs k r)) ≡ totals_sum (read s rs)
  hold_totals = rw (read_set s rs k r) (totals_same t f at (read s rs) k (part s r) h.low q.high)

  pub hold_apart : Apart t f at s rs s (set rs k r)
  hold_apart = record {
    long = length-set rs k r;
    same = λ j l e. rw (read_set s rs k r) (get_or-set_other (read s rs) k j (part s r) none (omega (arith, q.high)));
  }

  pub hold_part : part s (get_or (set rs k r) k 0) ≡ part s r
  hold_part = ap (part s) (get_or-set_same rs k r 0 hold_inside)
