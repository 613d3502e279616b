-- A function's total as memory has it: marks in a buffer of bytes, the context in four slots, and the records in one slot for each expression; and the pruner
-- of all totals.
use Rattle.std.specs.Prelude.{ℕ, ◌+◌, ◌≤◌, List, length, get_or}
use Rattle.field.specs.Limits.{max_functions, min_report}
use Rattle.part.specs.PartReq.{none}
use Rattle.part.specs.Store.{top, Good, Below}
use Rattle.module.specs.Tables.{module_of}
use Rattle.walk.specs.State.{FunctionReq}
use Rattle.walk.specs.Requests.{Pruner}
use Rattle.memory.specs.Layout.{globals_slot}
use Rattle.memory.specs.Memory.{read, records_of, context_at, Memory}
use Rattle.marks.specs.declared.totals.MarkTotals.{MarkTotals}
use Rattle.marks.specs.Places.{places_of, Places}
use Rattle.access.specs.Laid.{WasRead}
use Rattle.block.specs.Standing.{functions_in}

-- its marks, the context in the slots from `context` on, and `count` records in those from `base` on
abbrev pub total_in : (s rs marks : List ℕ) → (context base count : ℕ) → FunctionReq
total_in s rs marks context base count =
    record { marks = marks; context = context_at (read s rs) context; exprs = records_of (read s rs) base count }

-- they are there
pub record Stored (s rs : List ℕ) (context base count : ℕ) : Type 0 where
  pub good : Good s
  pub below : Below rs (top s)
  pub context_there : context + 4 ≤ length rs
  pub records_there : base + count ≤ length rs

-- the totals of globals and of each function
abbrev pub pruner_in : (bytes t s rs : List ℕ) (totals : MarkTotals) → Pruner
pruner_in bytes t s rs totals = record { globals = get_or (read s rs) globals_slot none; functions = functions_in (module_of bytes t) t (read s rs) totals }

-- a memory and marks of totals, with the table of where each function's marks begin, in a module that was read
pub record HasTotals (bytes t starts s rs : List ℕ) (totals : MarkTotals) : Type 0 where
  pub was_read : WasRead bytes t
  pub firsts : List ℕ
  pub placed : Places bytes t (places_of starts firsts)
  pub memory : Memory s rs
  pub flags_long : max_functions ≤ length totals.flags
  pub marks_long : min_report ≤ length totals.marks
