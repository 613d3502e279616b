-- The walk of a function: what it asks of the memory, and what it leaves.
use Rattle.std.specs.Prelude.{◌≡◌, Bool, List, ℕ, ◌+◌, ◌*◌, ◌≤◌, length, get_or, replicate, Result, Ok, Err}
use Rattle.std.proofs.Math.Option.{none as nothing}
use Rattle.field.specs.Limits.{max_pieces}
use Rattle.field.specs.Refusal.{number}
use Rattle.part.specs.PartReq.{none, entries}
use Rattle.part.specs.Store.{Room}
use Rattle.module.specs.Module.{FunctionHandle}
use Rattle.module.specs.Tables.{module_of}
use Rattle.walk.specs.State.{Out, went, halt}
use Rattle.walk.specs.Marks.{stretch, body_of}
use Rattle.walk.specs.Resolve.{function_at}
use Rattle.memory.specs.Layout.{exprs_slot, room}
use Rattle.memory.specs.Memory.{read}
use Rattle.marks.specs.declared.places.MarkPlaces.{MarkPlaces}
use Rattle.marks.specs.declared.totals.MarkTotals.{MarkTotals}
use Rattle.marks.specs.Places.{slice, start_of}
use Rattle.state.specs.State.{records_in, place_of}
use Rattle.state.specs.declared.answer.Halt.{Halt}
use Rattle.state.specs.declared.answer.Answer.{Answer}
use Rattle.block.specs.Standing.{state_in, Standing}
use Rattle.block.specs.Blocks.{context_in, Deep, Beside}
use Rattle.block.specs.declared.world.World.{World}
use Rattle.block.specs.declared.workspace.Workspace.{Workspace}

-- Its base context stands in the slots from `base` on: of the globals and of the return value alone. It has no record and no mark yet.
pub record FunctionEntered (bytes t types : List ℕ) (places : MarkPlaces) (s rs open_marks : List ℕ) (totals : MarkTotals) (f : FunctionHandle) (base held sum visits : ℕ) : Type 0 where
  pub standing : Standing bytes t types places s rs open_marks totals f base held sum visits
  pub no_locals : get_or (read s rs) (base + 1) none ≡ none
  pub no_args : get_or (read s rs) (base + 2) none ≡ none
  pub no_records : records_in t exprs_slot f (read s rs) ≡ replicate (length (function_at (module_of bytes t) f).expressions) nothing
  pub no_marks : slice open_marks (start_of (module_of bytes t) f) (stretch (module_of bytes t) f) ≡ replicate (stretch (module_of bytes t) f) 0
  pub base_few : context_in s rs base ≤ 2 * max_pieces
  pub few : held ≤ max_pieces
  pub sum_few : sum ≤ max_pieces
  pub deep : Deep bytes t rs f (body_of (module_of bytes t) f) (base + 4)
  pub roomy : Room s room

abbrev pub FunctionEnteredOf : World → Workspace → FunctionHandle → ℕ → ℕ → ℕ → ℕ → Type 0
FunctionEnteredOf w m f base held sum visits = FunctionEntered w.typed.now.file.now.bytes w.typed.now.file.now.t w.typed.now.types.now w.places.now m.parts.cells m.parts.slots m.open m.totals f base held sum visits

-- Its context stands behind the base. What it needs of its arguments was counted by 16, or is nothing.
pub record FunctionEnded (bytes t types : List ℕ) (places : MarkPlaces) (s rs open_marks : List ℕ) (totals : MarkTotals) (f : FunctionHandle) (base held : ℕ) (total : Out Bool) (visits sum : ℕ) (b : Bool) (u us open_after : List ℕ) (totals-after : MarkTotals) : Type 0 where
  pub is : went (state_in bytes t u us open_after totals-after f (base + 4) visits) b ≡ total
  pub standing : Standing bytes t types places u us open_after totals-after f (base + 4) (held + context_in u us base) sum visits
  pub args_few : entries (get_or (read u us) (base + 4 + 2) none) ≤ max_pieces
  pub few : context_in u us (base + 4) ≤ 2 * max_pieces
  pub sum_few : sum ≤ 4 * max_pieces
  pub beside : Beside bytes t f (base + 4) s rs open_marks u us open_after

abbrev pub FunctionEnding : (bytes t types : List ℕ) (places : MarkPlaces) (s rs open_marks : List ℕ) (totals : MarkTotals) → FunctionHandle → (base held : ℕ) → Out Bool → Result Answer Halt → (u us open_after : List ℕ) (totals-after : MarkTotals) → Type 0
FunctionEnding bytes t types places s rs open_marks totals f base held total (Ok a) u us open_after totals-after =
    FunctionEnded bytes t types places s rs open_marks totals f base held total a.tally.visits a.tally.sum a.required u us open_after totals-after
FunctionEnding bytes t types places s rs open_marks totals f base held total (Err h) u us open_after totals-after = halt (number h.refusal) (place_of h.place) ≡ total

pub record FunctionEnds (bytes t types : List ℕ) (places : MarkPlaces) (s rs open_marks : List ℕ) (totals : MarkTotals) (f : FunctionHandle) (base held : ℕ) (total : Out Bool) (r : Result Answer Halt) (u us open_after : List ℕ) (totals-after : MarkTotals) : Type 0 where
  pub by : FunctionEnding bytes t types places s rs open_marks totals f base held total r u us open_after totals-after

abbrev pub FunctionEndsOf : World → Workspace → FunctionHandle → ℕ → ℕ → Out Bool → Result Answer Halt → Workspace → Type 0
FunctionEndsOf w m f base held total r n = FunctionEnds w.typed.now.file.now.bytes w.typed.now.file.now.t w.typed.now.types.now w.places.now m.parts.cells m.parts.slots m.open m.totals f base held total r n.parts.cells n.parts.slots n.open n.totals
