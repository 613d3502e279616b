-- The walk just done put into the totals: what each step asks, and what is left. The sum changes by what the slots of the total count for before and after.
use Prim.Native.Nat.{ℕ, ◌+◌, ◌-◌, ◌*◌, ◌<◌, ◌≤◌}
use native.Mathlib.Omega.{arith}
use mathlib.Core.Path.{◌≡◌, sym, ap, ◌∙◌}
use mathlib.Core.Bool.{Bool, true, false}
use mathlib.Core.List.{List}
use lib.ListN.{length}
use Rattle.field.specs.Limits.{max_functions, min_report}
use Rattle.part.specs.StoreLimits.{entries_cap}
use Rattle.module.specs.Module.{FunctionHandle}
use Rattle.context.specs.RequiredContext.{RequiredContext, merge_context, over_context, pieces}
use Rattle.walk.specs.State.{State, Place, halt, limited_context, record_pieces}
use Rattle.walk.proofs.Counts.{record_pieces-extend}
use Rattle.walk.proofs.Room.{pieces-merge}
use Rattle.memory.specs.Layout.{exprs_slot, totals_slot, functions_slot}
use Rattle.memory.specs.Memory.{read, context_at}
use Rattle.marks.specs.declared.totals.MarkTotals.{MarkTotals}
use Rattle.marks.specs.Report.{MarksKept, MarksJoined}
use Rattle.state.specs.State.{records_in}
use Rattle.block.specs.Total.{total_count, TotalMade, TotalKept, TotalJoined, Weighing}
use Rattle.block.specs.Adding.{Adding}
use Rattle.block.proofs.Unroll.{limited_over}

-- the total of f has the context c; m is what `sum` has become
pub record Added (t s rs : List ℕ) (f : FunctionHandle) (c : RequiredContext) (sum m : ℕ) (u us : List ℕ) : Type 0 where
  pub made : TotalMade t f s rs c u us
  pub sums : m + total_count t f (read s rs) ≡ sum + total_count t f (read u us)

-- the first total of f
pub record FirstTotal (t starts s rs open_marks : List ℕ) (totals : MarkTotals) (f : FunctionHandle) (at sum m : ℕ) (us : List ℕ) (after : MarkTotals) : Type 0 where
  pub added : Added t s rs f (context_at (read s rs) at) sum m s us
  pub marks : MarksKept starts open_marks totals f after
  pub flag : f < length totals.flags
  pub long : min_report ≤ length totals.marks
  pub few : m ≤ sum + (record_pieces (records_in t exprs_slot f (read s rs)) + pieces (context_at (read s rs) at))

-- a later one
abbrev pub joint : (s rs : List ℕ) → FunctionHandle → (at : ℕ) → RequiredContext
joint s rs f at = merge_context (context_at (read s rs) (functions_slot + 4 * f)) (context_at (read s rs) at)

pub record LaterTotal (t starts s rs open_marks : List ℕ) (totals : MarkTotals) (f : FunctionHandle) (at sum m : ℕ) (u us : List ℕ) (after : MarkTotals) : Type 0 where
  pub within : over_context (joint s rs f at) ≡ false
  pub added : Added t s rs f (joint s rs f at) sum m u us
  pub marks : MarksJoined starts open_marks totals f after
  pub long : min_report ≤ length totals.marks
  pub few : m ≤ sum + (record_pieces (records_in t exprs_slot f (read s rs)) + pieces (context_at (read s rs) at))

module _ {t starts s rs open_marks : List ℕ} {f : FunctionHandle} {at sum : ℕ} (A : Adding t starts s rs open_marks f at sum) where
  -- what the total counts for afterwards
  module _ {c : RequiredContext} {u us : List ℕ} (M : TotalMade t f s rs c u us) (small : pieces c ≤ pieces (context_at (read s rs) (functions_slot + 4 * f)) + pieces (context_at (read s rs) at)) where
    grown : total_count t f (read u us) ≤ total_count t f (read s rs) + (record_pieces (records_in t exprs_slot f (read s rs)) + pieces (context_at (read s rs) at))
    grown =
        omega (
          arith,
          ap record_pieces M.total.exprs,
          ap pieces M.total.context,
          record_pieces-extend (records_in t totals_slot f (read s rs)) (records_in t exprs_slot f (read s rs)),
        )

    pub weighs_again : Weighing t u us f
    weighs_again = record {
      memory = M.memory;
      function = A.weighing.function;
      items = A.weighing.items;
      few = omega (arith, grown, A.old, A.few);
    }

    module _ {less more : ℕ} (e : less ≡ total_count t f (read s rs)) (g : more ≡ total_count t f (read u us)) where
      pub sum_fits : sum - less + more ≤ entries_cap
      sum_fits = omega (arith, grown, A.old, A.few)

      sum_few : sum - less + more ≤ sum + (record_pieces (records_in t exprs_slot f (read s rs)) + pieces (context_at (read s rs) at))
      sum_few = omega (arith, grown, A.old)

      added_is : Added t s rs f c sum (sum - less + more) u us
      added_is = record { made = M; sums = omega (arith, A.old) }

  -- the first total
  pub kept_made : {us : List ℕ} → TotalKept t f at rs us → TotalMade t f s rs (context_at (read s rs) at) s us
  kept_made k = k.is s A.weighing.memory

  pub kept_small : pieces (context_at (read s rs) at) ≤ pieces (context_at (read s rs) (functions_slot + 4 * f)) + pieces (context_at (read s rs) at)
  kept_small = omega arith

  pub first_is : {us : List ℕ} {totals after : MarkTotals} {less more : ℕ} → TotalKept t f at rs us → less ≡ total_count t f (read s rs) → more ≡ total_count t f (read s us)
      → MarksKept starts open_marks totals f after → max_functions ≤ length totals.flags → min_report ≤ length totals.marks
      → FirstTotal t starts s rs open_marks totals f at sum (sum - less + more) us after
  first_is k e g h flags long = record {
    added = added_is (kept_made k) kept_small e g;
    marks = h;
    flag = omega (arith, flags, A.totalling.function);
    long = long;
    few = sum_few (kept_made k) kept_small e g;
  }

  -- a later one
  pub later_small : pieces (joint s rs f at) ≤ pieces (context_at (read s rs) (functions_slot + 4 * f)) + pieces (context_at (read s rs) at)
  later_small = pieces-merge (context_at (read s rs) (functions_slot + 4 * f)) (context_at (read s rs) at)

  module _ {b : Bool} {u us : List ℕ} (J : TotalJoined t f at s rs b u us) where
    pub later_over : b ≡ true → (here : Place) (st : State) → halt 15 here ≡ limited_context here (joint s rs f at) st
    later_over e here st = limited_over here (joint s rs f at) st (sym e ∙ J.over)

    pub later_is : {totals after : MarkTotals} {less more : ℕ} → b ≡ false → less ≡ total_count t f (read s rs) → more ≡ total_count t f (read u us)
        → MarksJoined starts open_marks totals f after → min_report ≤ length totals.marks → LaterTotal t starts s rs open_marks totals f at sum (sum - less + more) u us after
    later_is z e g h long = record {
      within = sym J.over ∙ z;
      added = added_is J.made later_small e g;
      marks = h;
      long = long;
      few = sum_few J.made later_small e g;
    }
