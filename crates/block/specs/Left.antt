-- What is known as a called function is left: the caller f as it stood before the call, and g as its walk and its total have left it, its base above the
-- caller's context and its own above that.
use Rattle.std.specs.Prelude.{List, ℕ, ◌+◌, ◌<◌, ◌≤◌}
use Rattle.module.specs.Module.{FunctionHandle}
use Rattle.walk.specs.State.{record_pieces}
use Rattle.memory.specs.Layout.{exprs_slot}
use Rattle.memory.specs.Memory.{read}
use Rattle.marks.specs.declared.places.MarkPlaces.{MarkPlaces}
use Rattle.marks.specs.declared.totals.MarkTotals.{MarkTotals}
use Rattle.state.specs.State.{records_in}
use Rattle.leave.specs.Leave.{Leaving}
use Rattle.block.specs.Standing.{Standing}
use Rattle.block.specs.Blocks.{context_in, Beside}

-- what is held while g is walked: the caller's context and records too
abbrev pub held_by : (t s rs : List ℕ) → FunctionHandle → (at held : ℕ) → ℕ
held_by t s rs f at held = held + context_in s rs at + record_pieces (records_in t exprs_slot f (read s rs))

-- `inner` is what g counts as held, with or without its base.
pub record Left (bytes t types : List ℕ) (places : MarkPlaces) (s rs open_marks : List ℕ) (totals : MarkTotals) (f : FunctionHandle) (at held sum visits : ℕ) (g : FunctionHandle) (inner less later : ℕ) (u us open_after : List ℕ) (totals-after : MarkTotals) : Type 0 where
  pub caller : Standing bytes t types places s rs open_marks totals f at held sum visits
  pub callee : Standing bytes t types places u us open_after totals-after g (at + 8) inner less later
  pub lower : g < f
  pub least : held_by t s rs f at held ≤ inner
  pub most : inner ≤ held_by t s rs f at held + context_in u us (at + 4)
  pub beside : Beside bytes t g (at + 4) s rs open_marks u us open_after
  pub leaving : Leaving bytes t u us g (at + 4) (at + 8)
