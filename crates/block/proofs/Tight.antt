-- What the slots of a state have beside its own stays as it was while the state changes: the current context, the records and the totals count for all that changes. So a
-- block that was entered with less to hold leaves a state that stands with as little.
use Prim.Native.Nat.{ℕ, ◌+◌, ◌-◌, ◌<◌, ◌≤◌}
use native.Mathlib.Omega.{arith}
use native.Mathlib.Decide.{dec_lt}
use mathlib.Core.Path.{◌≡◌, sym, ap, ◌∙◌}
use mathlib.Core.Bool.{Bool}
use mathlib.Core.List.{List}
use lib.ListN.{length, get_or}
use Rattle.part.specs.PartReq.{none}
use Rattle.part.specs.StoreLimits.{entries_cap}
use Rattle.module.specs.Module.{FunctionHandle, BlockHandle}
use Rattle.module.specs.Tables.{row_at, expressions_from, max_items}
use Rattle.context.specs.RequiredContext.{pieces}
use Rattle.walk.specs.State.{Out}
use Rattle.memory.specs.Layout.{exprs_slot, totals_slot, stack_slot}
use Rattle.memory.specs.Memory.{read, sum_from, counted, context_at}
use Rattle.memory.proofs.Slots.{read-long, counted-split}
use Rattle.memory.proofs.Records.{records_pieces}
use Rattle.memory.proofs.Runs.{context_pieces}
use Rattle.marks.specs.declared.places.MarkPlaces.{MarkPlaces}
use Rattle.marks.specs.declared.totals.MarkTotals.{MarkTotals}
use Rattle.state.proofs.Own.{fits, records_there}
use Rattle.leave.proofs.Sums.{sum_stretch}
use Rattle.block.specs.Standing.{Standing}
use Rattle.block.specs.Blocks.{context_in, Entered, Beside, BlockEnded}

module _ {bytes t types : List ℕ} {places : MarkPlaces} {s rs open_marks : List ℕ} {totals : MarkTotals} {f at held sum visits : ℕ} (S : Standing bytes t types places s rs open_marks totals f at held sum visits) where
  -- the same state where something else is held
  owning : (own : ℕ) → counted (read s rs) ≤ own + (pieces (context_at (read s rs) at) + sum) → own + (pieces (context_at (read s rs) at) + sum) ≤ entries_cap
      → Standing bytes t types places s rs open_marks totals f at own sum visits
  owning own owned small = record {
    ready = record {
      was_read = S.ready.was_read;
      function = S.ready.function;
      memory = S.ready.memory;
      low = S.ready.low;
      high = S.ready.high;
      sums = S.ready.sums;
      owned = owned;
      small = small;
    };
    typed = S.typed;
    placed = S.placed;
    open_long = S.open_long;
    totals-sum = S.totals-sum;
    unwalked = S.unwalked;
    proper = S.proper;
    closed = S.closed;
    above = S.above;
  }

module _ {bytes t types : List ℕ} {places : MarkPlaces} {s rs open_marks : List ℕ} {totals : MarkTotals} {f at held sum visits : ℕ} (S : Standing bytes t types places s rs open_marks totals f at held sum visits) where
  pub looser : (more : ℕ) → held ≤ more → more + (pieces (context_at (read s rs) at) + sum) ≤ entries_cap → Standing bytes t types places s rs open_marks totals f at more sum visits
  looser more l small = owning S more (omega (arith, S.ready.owned)) small

  module _ {open_after : List ℕ} {totals-after : MarkTotals} {u us : List ℕ} {other m v : ℕ} (U : Standing bytes t types places u us open_after totals-after f at other m v)
      (B : Beside bytes t f at s rs open_marks u us open_after) where
    abbrev from : ℕ
    from = exprs_slot + expressions_from (row_at t f)

    abbrev n : ℕ
    n = (row_at t f).expressions

    inside : from + n ≤ totals_slot
    inside = fits f S.ready.was_read S.ready.function

    record_same : (k : ℕ) → exprs_slot ≤ k → k < exprs_slot + max_items → (from ≤ k → k < from + n → ⊥) → get_or (read u us) k none ≡ get_or (read s rs) k none
    record_same k a b out =
        elim (dec_lt k (exprs_slot + (row_at t f).items)) [
          | yes x ↦ U.closed k a x ∙ sym (S.closed k a x)
          | no x ↦ B.records k (omega arith) (omega arith) (λ e i z. out (omega arith) (omega arith))
        ]

    stack_same : (k : ℕ) → stack_slot ≤ k → k < stack_slot + (length (read s rs) - stack_slot) → (at ≤ k → k < at + 4 → ⊥) → get_or (read u us) k none ≡ get_or (read s rs) k none
    stack_same k a b out =
        elim (dec_lt k at) [
          | yes x ↦ B.stack k a x
          | no x ↦ elim (dec_lt k (at + 4)) [ yes y ↦ absurd (out (omega arith) y) | no y ↦ U.above k (omega arith) ∙ sym (S.above k (omega arith)) ]
        ]

    pub counts_kept : counted (read u us) + (pieces (context_at (read s rs) at) + sum) ≡ counted (read s rs) + (pieces (context_at (read u us) at) + m)
    counts_kept =
        let a = S.ready.memory.slots in
        let low = S.ready.low in
        let high = S.ready.high in
        let w = inside in
        let l = read-long s rs in
        let k = read-long u us in
        let long = B.long in
        let e : length (read u us) - stack_slot ≡ length (read s rs) - stack_slot = omega arith in
        omega (
          arith,
          S.ready.sums,
          U.ready.sums,
          counted-split (read u us) (omega arith),
          counted-split (read s rs) (omega arith),
          records_pieces (read s rs) from n (records_there t f inside S.ready.memory),
          records_pieces (read u us) from n (records_there t f inside U.ready.memory),
          context_pieces (read s rs) at,
          context_pieces (read u us) at,
          sum_stretch (read s rs) (read u us) exprs_slot max_items from n (omega arith) (omega arith) record_same,
          ap (λ (x : ℕ). sum_from (read u us) stack_slot x) e,
          sum_stretch (read s rs) (read u us) stack_slot (length (read s rs) - stack_slot) at 4 low (omega arith) stack_same,
        )

    pub tighter : (own : ℕ) → counted (read s rs) ≤ own + (pieces (context_at (read s rs) at) + sum) → own ≤ other → Standing bytes t types places u us open_after totals-after f at own m v
    tighter own owned l = owning U own (omega (arith, counts_kept)) (omega (arith, U.ready.small))

-- a block that holds its base once more
module _ {bytes t types : List ℕ} {places : MarkPlaces} {s rs open_marks : List ℕ} {totals : MarkTotals} {f : FunctionHandle} {b : BlockHandle} {base at held own sum visits : ℕ}
    (E : Entered bytes t types places s rs open_marks totals f b base at held own sum visits) where
  pub enters_more : own ≤ held + context_in s rs base → Entered bytes t types places s rs open_marks totals f b base at held (held + context_in s rs base) sum visits
  enters_more l = record {
    standing = looser E.standing (held + context_in s rs base) l (omega (arith, E.few, E.empty));
    empty = E.empty;
    block = E.block;
    base_low = E.base_low;
    base_below = E.base_below;
    base_fine = E.base_fine;
    base_few = E.base_few;
    few = E.few;
    deep = E.deep;
    roomy = E.roomy;
  }

  pub ends_less : own ≤ held + context_in s rs base → {total : Out Bool} {v m : ℕ} {r : Bool} {u us open_after : List ℕ} {totals-after : MarkTotals}
      → BlockEnded bytes t types places s rs open_marks totals f base at held (held + context_in s rs base) sum total v m r u us open_after totals-after
      → BlockEnded bytes t types places s rs open_marks totals f base at held own sum total v m r u us open_after totals-after
  ends_less l B = record {
    is = B.is;
    standing = tighter E.standing B.standing B.beside own E.standing.ready.owned l;
    settled = B.settled;
    roomy = B.roomy;
    beside = B.beside;
  }
