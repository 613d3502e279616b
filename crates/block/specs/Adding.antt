-- What the walk just done asks, when it is put into the totals.
use Rattle.std.specs.Prelude.{List, ℕ, ◌+◌, ◌≤◌, length}
use Rattle.field.specs.Limits.{min_report}
use Rattle.part.specs.StoreLimits.{entries_cap}
use Rattle.module.specs.Module.{FunctionHandle}
use Rattle.context.specs.RequiredContext.{pieces}
use Rattle.walk.specs.State.{record_pieces}
use Rattle.memory.specs.Layout.{exprs_slot}
use Rattle.memory.specs.Memory.{read, context_at}
use Rattle.marks.specs.Places.{Inside}
use Rattle.state.specs.State.{records_in}
use Rattle.block.specs.Total.{total_count, Totalling, Weighing}

-- what it asks: the current context of f stands at `at`, and `sum` counts the total of f too
pub record Adding (t starts s rs open_marks : List ℕ) (f : FunctionHandle) (at sum : ℕ) : Type 0 where
  pub totalling : Totalling t rs f at
  pub weighing : Weighing t s rs f
  pub inside : Inside starts f min_report
  pub open_long : min_report ≤ length open_marks
  pub old : total_count t f (read s rs) ≤ sum
  pub few : sum + (record_pieces (records_in t exprs_slot f (read s rs)) + pieces (context_at (read s rs) at)) ≤ entries_cap
