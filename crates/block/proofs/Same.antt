-- Slots that mean the same where a state looks give the same state: its context, its records, its totals, and what these count for.
use Prim.Native.Nat.{ℕ, ◌+◌, ◌*◌, ◌<◌, ◌≤◌}
use native.Mathlib.Omega.{arith}
use mathlib.Core.Path.{◌≡◌}
use mathlib.Core.Bool.{false}
use mathlib.Core.List.{List}
use lib.ListN.{length, get_or}
use Rattle.field.specs.Limits.{max_functions}
use Rattle.part.specs.PartReq.{PartReq, none}
use Rattle.module.specs.Module.{FunctionHandle}
use Rattle.module.specs.Tables.{row_at, expressions_from, max_items, module_of}
use Rattle.module.proofs.Tab.{tab-same}
use Rattle.valid.proofs.Accepted.{valid}
use Rattle.context.specs.RequiredContext.{pieces}
use Rattle.walk.specs.State.{record_pieces, total_pieces}
use Rattle.memory.specs.Layout.{globals_slot, exprs_slot, totals_slot, functions_slot, stack_slot}
use Rattle.memory.specs.Memory.{context_at}
use Rattle.memory.proofs.Runs.{records_same, context_same}
use Rattle.state.specs.State.{records_in, totals_sum, state_of, sum_in}
use Rattle.access.specs.Laid.{WasRead}
use Rattle.state.proofs.Own.{fits}
use Rattle.state.proofs.Others.{sum_same}
use Rattle.marks.specs.declared.totals.MarkTotals.{MarkTotals}
use Rattle.marks.specs.Report.{has_total}
use Rattle.block.specs.Standing.{total_in, functions_in, rest_in}

abbrev Same : (ps qs : List PartReq) → ℕ → Type 0
Same ps qs k = get_or qs k none ≡ get_or ps k none

module _ (ps qs : List PartReq) where
  -- the totals stand between the records and the stack
  module _ {bytes t : List ℕ} (w : WasRead bytes t) (h : (k : ℕ) → totals_slot ≤ k → k < stack_slot → Same ps qs k) where
    few_functions : length (module_of bytes t).functions ≤ max_functions
    few_functions = (valid bytes (module_of bytes t) w.module_is).few_functions

    pub total_slots : (g : FunctionHandle) → g < length (module_of bytes t).functions
        → (context_at qs (functions_slot + 4 * g) ≡ context_at ps (functions_slot + 4 * g)) × (records_in t totals_slot g qs ≡ records_in t totals_slot g ps)
    total_slots g l =
        let f = fits g w l in
        let few = few_functions in (
          context_same ps qs (functions_slot + 4 * g) (λ i b. h (functions_slot + 4 * g + i) (omega arith) (omega arith)),
          records_same ps qs (totals_slot + expressions_from (row_at t g)) (row_at t g).expressions (λ e b. h (totals_slot + expressions_from (row_at t g) + e) (omega arith) (omega arith)),
        )

    total_same : (totals : MarkTotals) (g : FunctionHandle) → g < length (module_of bytes t).functions → total_in (module_of bytes t) t qs totals g ≡ total_in (module_of bytes t) t ps totals g
    unfolding total_in
    total_same totals g l = rw ((total_slots g l).0, (total_slots g l).1)

    pub functions_same : (totals : MarkTotals) → functions_in (module_of bytes t) t qs totals ≡ functions_in (module_of bytes t) t ps totals
    unfolding functions_in
    functions_same totals =
        tab-same (length (module_of bytes t).functions) (total_in (module_of bytes t) t qs totals) (total_in (module_of bytes t) t ps totals) (λ g l. total_same totals g l)

    pub totals_same : totals_sum qs ≡ totals_sum ps
    totals_same =
        rw (
          sum_same qs ps totals_slot max_items (λ j l. h (totals_slot + j) (omega arith) (omega arith)),
          sum_same qs ps functions_slot (4 * max_functions) (λ j l. h (functions_slot + j) (omega arith) (omega arith)),
        )

    -- of a state that stands
    pub sum_kept : (totals : MarkTotals) → total_pieces (functions_in (module_of bytes t) t ps totals) ≡ totals_sum ps → total_pieces (functions_in (module_of bytes t) t qs totals) ≡ totals_sum qs
    sum_kept totals e = rw (functions_same totals, totals_same) e

    pub unwalked_kept : (totals : MarkTotals)
        → ((g : ℕ) → g < length (module_of bytes t).functions → has_total totals g ≡ false → record_pieces (records_in t totals_slot g ps) + pieces (context_at ps (functions_slot + 4 * g)) ≡ 0)
        → (g : ℕ) → g < length (module_of bytes t).functions → has_total totals g ≡ false → record_pieces (records_in t totals_slot g qs) + pieces (context_at qs (functions_slot + 4 * g)) ≡ 0
    unwalked_kept totals old g l z = rw ((total_slots g l).0, (total_slots g l).1) (old g l z)

  -- slots that differ on the stack alone
  module _ {bytes t : List ℕ} (w : WasRead bytes t) (f : FunctionHandle) (there : f < length (module_of bytes t).functions)
      (h : (k : ℕ) → globals_slot ≤ k → k < stack_slot → Same ps qs k) where
    pub own_records : records_in t exprs_slot f qs ≡ records_in t exprs_slot f ps
    own_records =
        let l = fits f w there in
        records_same ps qs (exprs_slot + expressions_from (row_at t f)) (row_at t f).expressions (λ e b. h (exprs_slot + expressions_from (row_at t f) + e) (omega arith) (omega arith))

    pub own_sum : sum_in t f qs ≡ sum_in t f ps
    own_sum = rw (own_records, h globals_slot (omega arith) (omega arith), totals_same w (λ k a b. h k (omega arith) b))

    pub state_same : (at v : ℕ) (open_marks : List ℕ) (totals : MarkTotals)
        → state_of t f at qs (rest_in (module_of bytes t) t f qs open_marks totals) v
        ≡ record {
          context = context_at qs at;
          exprs = records_in t exprs_slot f ps;
          marks = (rest_in (module_of bytes t) t f ps open_marks totals).marks;
          globals = get_or ps globals_slot none;
          functions = functions_in (module_of bytes t) t ps totals;
          visits = v;
        }
    state_same at v open_marks totals = rw (own_records, h globals_slot (omega arith) (omega arith), functions_same w (λ k a b. h k (omega arith) b) totals)
