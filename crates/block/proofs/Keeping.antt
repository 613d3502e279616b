-- A state that stands still does so with a new total of the open function: only the totals have changed, and what they count for by that one alone.
use Prim.Native.Nat.{ℕ, ◌+◌, ◌-◌, ◌*◌, ◌<◌, ◌≤◌}
use native.Mathlib.Omega.{arith}
use native.Mathlib.Decide.{ℕ_discrete}
use mathlib.Core.Path.{◌≡◌, refl, sym, ap, subst, ◌∙◌}
use mathlib.Core.Bool.{Bool, true, false}
use mathlib.Core.List.{List}
use mathlib.Core.Option.{some, none as nothing, none-ne-some}
use lib.ListN.{length, get_or, set}
use Rattle.part.specs.PartReq.{PartReq, none, entries}
use Rattle.part.specs.StoreLimits.{entries_cap}
use Rattle.module.specs.Module.{Module}
use Rattle.module.specs.Tables.{row_at, expressions_from, items_to, max_items, module_of}
use Rattle.module.proofs.Tab.{length-tab, get_d_tab}
use Rattle.access.proofs.Access.{functions_are}
use Rattle.context.specs.RequiredContext.{RequiredContext, pieces}
use Rattle.walk.specs.State.{Records, FunctionReq, record_pieces, function_pieces, total_pieces}
use Rattle.walk.specs.Function.{keep}
use Rattle.walk.specs.Proper.{ProperState}
use Rattle.walk.proofs.Counts.{total_pieces-set}
use Rattle.memory.specs.Layout.{globals_slot, exprs_slot, totals_slot, functions_slot, stack_slot}
use Rattle.memory.specs.Memory.{read, sum_from, counted, Recorded, context_at, Memory}
use Rattle.memory.proofs.Slots.{read_at, read-long, slot_low, counted-split}
use Rattle.memory.proofs.Runs.{records_same, context_same}
use Rattle.valid.proofs.Accepted.{valid}
use Rattle.marks.specs.declared.places.MarkPlaces.{MarkPlaces}
use Rattle.marks.specs.declared.totals.MarkTotals.{MarkTotals}
use Rattle.marks.specs.Report.{has_total}
use Rattle.marks.specs.Report as report
use Rattle.marks.proofs.Sums.{total_there, total_missing}
use Rattle.state.specs.State.{records_in, totals_sum}
use Rattle.state.proofs.Others.{sum_same}
use Rattle.block.specs.Standing.{total_of, total_in, functions_in, state_in, Standing}
use Rattle.block.specs.Blocks.{Beside}
use Rattle.block.specs.Total.{NewTotal, total_count}
use Rattle.block.proofs.Totalled.{functions-set, other_count, total_sums}

-- the slots of totals have records
pub totals_recorded : {s rs : List ℕ} → Memory s rs → (k : ℕ) → totals_slot ≤ k → k < functions_slot → Recorded (get_or (read s rs) k none)
totals_recorded {s} {rs} m k a b = rw (read_at s rs k (slot_low m k (omega arith)).0) (m.records k (omega arith) b)

-- a total counts for what its slots count for
total_counts : (m : Module) (t : List ℕ) (ps : List PartReq) (totals : MarkTotals) (f : ℕ) → (has_total totals f ≡ false → total_count t f ps ≡ 0) → function_pieces (total_in m t ps totals f) ≡ total_count t f ps
unfolding total_in total_of function_pieces
total_counts m t ps totals f h = by (has_total totals f) refl
  where
    by : (b : Bool) → has_total totals f ≡ b → function_pieces (total_of (report.total_in m totals f) (context_at ps (functions_slot + 4 * f)) (records_in t totals_slot f ps)) ≡ total_count t f ps
    by true e = rw (total_there m totals f e)
    by false e = rw (total_missing m totals f e) (sym (h e))

-- a total that is the same is there or is not
same_flag : (m : Module) (totals after : MarkTotals) (g : ℕ) → report.total_in m after g ≡ report.total_in m totals g → has_total after g ≡ false → has_total totals g ≡ false
same_flag m totals after g same h = by (has_total totals g) refl
  where
    by : (b : Bool) → has_total totals g ≡ b → has_total totals g ≡ false
    by false e = e
    by true e = absurd (none-ne-some _ (sym (total_missing m after g h) ∙ same ∙ total_there m totals g e))

module _ {bytes t types : List ℕ} {places : MarkPlaces} {s rs open_marks : List ℕ} {totals : MarkTotals} {f at held sum visits : ℕ} {u us : List ℕ} {c : RequiredContext} {es : Records}
    (S : Standing bytes t types places s rs open_marks totals f at held sum visits) (M : Memory u us) (N : NewTotal t f (read s rs) (read u us) c es) where
  within : totals_slot + items_to (row_at t f) ≤ functions_slot
  within = let h = S.ready.was_read.laid.within f (rw (functions_are t bytes) S.ready.function) in omega arith

  below : (k : ℕ) → k < totals_slot → get_or (read u us) k none ≡ get_or (read s rs) k none
  below k l = N.same k (λ e i z. omega arith) (λ i j z. omega arith)

  beyond : (k : ℕ) → stack_slot ≤ k → get_or (read u us) k none ≡ get_or (read s rs) k none
  beyond k l =
      let h = within in
      let few : functions_slot + 4 * f + 4 ≤ stack_slot = few_slots in
      N.same k (λ e i z. omega arith) (λ i j z. omega arith)
    where
      few_slots : functions_slot + 4 * f + 4 ≤ stack_slot
      few_slots = let h = S.ready.function in omega (arith, (valid bytes (module_of bytes t) S.ready.was_read.module_is).few_functions)

  pub beside_total : Beside bytes t f at s rs open_marks u us open_marks
  beside_total = record {
    long = sym (read-long u us) ∙ N.long ∙ read-long s rs;
    stack = λ k x y. beyond k x;
    records = λ k x y n. below k y;
    marks_long = refl;
    marks = λ k x. refl;
  }

  own_records : records_in t exprs_slot f (read u us) ≡ records_in t exprs_slot f (read s rs)
  own_records =
      let h = within in
      records_same (read s rs) (read u us) (exprs_slot + expressions_from (row_at t f)) (row_at t f).expressions
      (λ e l. below (exprs_slot + expressions_from (row_at t f) + e) (omega arith))

  own_context : context_at (read u us) at ≡ context_at (read s rs) at
  own_context = let low = S.ready.low in context_same (read s rs) (read u us) at (λ i l. beyond (at + i) (omega arith))

  sums : totals_sum (read u us) + total_count t f (read s rs) ≡ totals_sum (read s rs) + (record_pieces es + pieces c)
  sums =
      let h = within in
      total_sums S.ready.was_read S.ready.function N
      (λ e l. totals_recorded S.ready.memory (totals_slot + expressions_from (row_at t f) + e) (omega arith) (omega arith))
      (λ e l. totals_recorded M (totals_slot + expressions_from (row_at t f) + e) (omega arith) (omega arith))

  counts : counted (read u us) + total_count t f (read s rs) ≡ counted (read s rs) + (record_pieces es + pieces c)
  counts =
      let a = S.ready.memory.slots in
      omega (
        arith,
        sums,
        counted-split (read u us) (omega (arith, M.slots, read-long u us)),
        counted-split (read s rs) (omega (arith, read-long s rs)),
        ap entries (below globals_slot (omega arith)),
        sum_same (read u us) (read s rs) exprs_slot max_items (λ j l. below (exprs_slot + j) (omega arith)),
        ap (λ (n : ℕ). sum_from (read u us) stack_slot (n - stack_slot)) N.long,
        sum_same (read u us) (read s rs) stack_slot (length (read s rs) - stack_slot) (λ j l. beyond (stack_slot + j) (omega arith)),
      )

  module _ (after : MarkTotals) (ms : List ℕ) (own : report.total_in (module_of bytes t) after f ≡ some ms)
      (others : (g : ℕ) → g < length (module_of bytes t).functions → (g ≡ f → ⊥) → report.total_in (module_of bytes t) after g ≡ report.total_in (module_of bytes t) totals g) where
    abbrev req : FunctionReq
    req = record { marks = ms; context = c; exprs = es }

    functions_are_set : functions_in (module_of bytes t) t (read u us) after ≡ set (functions_in (module_of bytes t) t (read s rs) totals) f (some req)
    functions_are_set = functions-set S.ready.was_read S.ready.function N totals after ms own others

    pub total_state : (v : ℕ) → state_in bytes t u us open_marks after f at v ≡ keep f req (state_in bytes t s rs open_marks totals f at v)
    total_state v = rw (own_context, own_records, below globals_slot (omega arith), functions_are_set)

    totals-sum : total_pieces (functions_in (module_of bytes t) t (read u us) after) ≡ totals_sum (read u us)
    unfolding functions_in function_pieces
    totals-sum =
        let m = module_of bytes t in
        let old = functions_in m t (read s rs) totals in
        let long : length old ≡ length m.functions = length-tab (length m.functions) (total_in m t (read s rs) totals) in
        let there = S.ready.function in
        let is : get_or old f nothing ≡ total_in m t (read s rs) totals f = get_d_tab (length m.functions) (total_in m t (read s rs) totals) f nothing there in
        let count = total_counts m t (read s rs) totals f (S.unwalked f there) in
        omega (
          arith,
          sums,
          S.totals-sum,
          count,
          ap function_pieces is,
          ap total_pieces functions_are_set,
          total_pieces-set old f (some req) (omega arith),
        )

    pub total_standing : {m v : ℕ} → m + total_count t f (read s rs) ≡ sum + (record_pieces es + pieces c)
        → held + (pieces (context_at (read s rs) at) + m) ≤ entries_cap → ProperState (module_of bytes t) 0 f (state_in bytes t u us open_marks after f at v)
        → Standing bytes t types places u us open_marks after f at held m v
    total_standing {m} {v} changed small proper =
        let e = ap pieces own_context in
        let n = ap record_pieces own_records in
        let g = ap entries (below globals_slot (omega arith)) in
        let w = within in
        record {
          ready = record {
            was_read = S.ready.was_read;
            function = S.ready.function;
            memory = M;
            low = S.ready.low;
            high = omega (arith, S.ready.high, N.long, read-long u us, read-long s rs);
            sums = omega (arith, S.ready.sums, sums);
            owned = omega (arith, S.ready.owned, counts);
            small = omega arith;
          };
          typed = S.typed;
          placed = S.placed;
          open_long = S.open_long;
          totals-sum = totals-sum;
          unwalked = λ k l h.
              elim (ℕ_discrete k f) [
                | yes z ↦ absurd (none-ne-some _ (sym (total_missing (module_of bytes t) after f (subst (λ (i : ℕ). has_total after i ≡ false) z h)) ∙ own))
                | no ne ↦ other_count S.ready.was_read S.ready.function N k l ne ∙ S.unwalked k l (same_flag (module_of bytes t) totals after k (others k l ne) h)
              ];
          proper = proper;
          closed = λ k a b. below k (omega arith) ∙ S.closed k a b;
          above = λ k a. beyond k (omega (arith, S.ready.low)) ∙ S.above k a;
        }
