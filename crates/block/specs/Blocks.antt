-- What the walks of a block, of a statement and of a function ask of the memory, and what they leave.
use Rattle.std.specs.Prelude.{◌≡◌, Bool, List, ℕ, suc, ◌+◌, ◌*◌, ◌<◌, ◌≤◌, length, get_or, Result, Ok, Err}
use Rattle.field.specs.Limits.{max_pieces}
use Rattle.field.specs.Refusal.{number}
use Rattle.part.specs.PartReq.{none}
use Rattle.part.specs.Store.{Room}
use Rattle.module.specs.Module.{FunctionHandle, BlockHandle}
use Rattle.module.specs.Tables.{row_at, expressions_from, module_of}
use Rattle.context.specs.RequiredContext.{RequiredContext, pieces}
use Rattle.walk.specs.State.{Out, went, halt}
use Rattle.walk.specs.Proper.{FineContext}
use Rattle.sound.specs.Sizes.{record_number}
use Rattle.memory.specs.Layout.{exprs_slot, totals_slot, stack_slot, room}
use Rattle.memory.specs.Memory.{read, context_at}
use Rattle.marks.specs.declared.places.MarkPlaces.{MarkPlaces}
use Rattle.marks.specs.declared.totals.MarkTotals.{MarkTotals}
use Rattle.marks.specs.Places.{start_of}
use Rattle.state.specs.State.{place_of}
use Rattle.state.specs.Frame.{Begun}
use Rattle.state.specs.declared.frame.Frame.{Frame}
use Rattle.state.specs.declared.answer.Halt.{Halt}
use Rattle.state.specs.declared.answer.Answer.{Answer}
use Rattle.block.specs.Standing.{state_in, Standing}
use Rattle.block.specs.declared.world.World.{World}
use Rattle.block.specs.declared.workspace.Workspace.{Workspace}

-- what 16 counts of the context in four slots
abbrev pub context_in : (s rs : List ℕ) → ℕ → ℕ
context_in s rs k = pieces (context_at (read s rs) k)

-- The slots above the current context suffice for the block b of f: six for each block and statement of the file up to its end.
abbrev pub Deep : (bytes t rs : List ℕ) → FunctionHandle → BlockHandle → (at : ℕ) → Type 0
Deep bytes t rs f b at = at + 6 * (record_number (module_of bytes t) f b + 1) ≤ length rs

-- What a block asks, whose base stands in the slots from `base` on. `own` is what the slots have beside the current context, records and totals: the base of a nested block is
-- the holder's context, which `held` counts, and that of a function's body is not counted there.
pub record Entered (bytes t types : List ℕ) (places : MarkPlaces) (s rs open_marks : List ℕ) (totals : MarkTotals) (f : FunctionHandle) (b : BlockHandle) (base at held own sum visits : ℕ) : Type 0 where
  pub standing : Standing bytes t types places s rs open_marks totals f at own sum visits
  pub empty : context_in s rs at ≡ 0
  pub block : b < (row_at t f).blocks
  pub base_low : stack_slot ≤ base
  pub base_below : base + 4 ≤ at
  pub base_fine : FineContext (module_of bytes t) f (context_at (read s rs) base)
  pub base_few : context_in s rs base ≤ 2 * max_pieces
  pub few : held + (context_in s rs base + sum) ≤ 8 * max_pieces
  pub deep : Deep bytes t rs f b at
  pub roomy : Room s room

abbrev pub EnteredOf : World → Workspace → FunctionHandle → BlockHandle → ℕ → ℕ → ℕ → ℕ → ℕ → ℕ → Type 0
EnteredOf w m f b base at held own sum visits = Entered w.typed.now.file.now.bytes w.typed.now.file.now.t w.typed.now.types.now w.places.now m.parts.cells m.parts.slots m.open m.totals f b base at held own sum visits

-- What the arm of a statement asks that may hold blocks; b is the block that it stands in.
pub record Begins (bytes t types : List ℕ) (places : MarkPlaces) (s rs open_marks : List ℕ) (totals : MarkTotals) (fr : Frame) (b : BlockHandle) (sum visits : ℕ) : Type 0 where
  pub standing : Standing bytes t types places s rs open_marks totals fr.function.0 fr.at fr.held sum visits
  pub begun : Begun bytes t s rs fr sum
  pub block : b < (row_at t fr.function.0).blocks
  pub deep : Deep bytes t rs fr.function.0 b fr.at

-- The block had no statement, so that nothing has changed; or 16 has been asked as its last visit ended.
pub data Settled (held : ℕ) (base : RequiredContext) (before-sum : ℕ) (context : RequiredContext) (sum : ℕ) : Type 0 where
  untouched : context ≡ base → sum ≡ before-sum → Settled held base before-sum context sum
  checked : held + pieces base + (pieces context + sum) ≤ max_pieces → Settled held base before-sum context sum

-- the slot k is no record of f
abbrev pub NoRecord : (t : List ℕ) → FunctionHandle → ℕ → Type 0
NoRecord t f k = (e : ℕ) → e < (row_at t f).expressions → exprs_slot + expressions_from (row_at t f) + e ≡ k → ⊥

-- the slots below the current context, and what belongs to functions above f, are as they were
pub record Beside (bytes t : List ℕ) (f : FunctionHandle) (at : ℕ) (s rs open_marks u us open_after : List ℕ) : Type 0 where
  pub long : length us ≡ length rs
  pub stack : (k : ℕ) → stack_slot ≤ k → k < at → get_or (read u us) k none ≡ get_or (read s rs) k none
  pub records : (k : ℕ) → exprs_slot + (row_at t f).items ≤ k → k < totals_slot → NoRecord t f k → get_or (read u us) k none ≡ get_or (read s rs) k none
  pub marks_long : length open_after ≡ length open_marks
  pub marks : (k : ℕ) → start_of (module_of bytes t) (suc f) ≤ k → get_or open_after k 0 ≡ get_or open_marks k 0

-- the walk of a block went as `total` says
pub record BlockEnded (bytes t types : List ℕ) (places : MarkPlaces) (s rs open_marks : List ℕ) (totals : MarkTotals) (f : FunctionHandle) (base at held own before-sum : ℕ) (total : Out Bool) (visits sum : ℕ) (b : Bool) (u us open_after : List ℕ) (totals-after : MarkTotals) : Type 0 where
  pub is : went (state_in bytes t u us open_after totals-after f at visits) b ≡ total
  pub standing : Standing bytes t types places u us open_after totals-after f at own sum visits
  pub settled : Settled held (context_at (read s rs) base) before-sum (context_at (read u us) at) sum
  pub roomy : Room u room
  pub beside : Beside bytes t f at s rs open_marks u us open_after

abbrev pub BlockEnding : (bytes t types : List ℕ) (places : MarkPlaces) (s rs open_marks : List ℕ) (totals : MarkTotals) → FunctionHandle → (base at held own sum : ℕ) → Out Bool → Result Answer Halt → (u us open_after : List ℕ) (totals-after : MarkTotals) → Type 0
BlockEnding bytes t types places s rs open_marks totals f base at held own sum total (Ok a) u us open_after totals-after =
    BlockEnded bytes t types places s rs open_marks totals f base at held own sum total a.tally.visits a.tally.sum a.required u us open_after totals-after
BlockEnding bytes t types places s rs open_marks totals f base at held own sum total (Err h) u us open_after totals-after = halt (number h.refusal) (place_of h.place) ≡ total

pub record BlockEnds (bytes t types : List ℕ) (places : MarkPlaces) (s rs open_marks : List ℕ) (totals : MarkTotals) (f : FunctionHandle) (base at held own sum : ℕ) (total : Out Bool) (r : Result Answer Halt) (u us open_after : List ℕ) (totals-after : MarkTotals) : Type 0 where
  pub by : BlockEnding bytes t types places s rs open_marks totals f base at held own sum total r u us open_after totals-after

abbrev pub BlockEndsOf : World → Workspace → FunctionHandle → ℕ → ℕ → ℕ → ℕ → ℕ → Out Bool → Result Answer Halt → Workspace → Type 0
BlockEndsOf w m f base at held own sum total r n = BlockEnds w.typed.now.file.now.bytes w.typed.now.file.now.t w.typed.now.types.now w.places.now m.parts.cells m.parts.slots m.open m.totals f base at held own sum total r n.parts.cells n.parts.slots n.open n.totals

-- a statement, or its arm, went as `total` says, with `answer` for its answer b
pub record StatementEnded {A : Type 0} (bytes t types : List ℕ) (places : MarkPlaces) (s rs open_marks : List ℕ) (totals : MarkTotals) (fr : Frame) (total : Out A) (answer : Bool → A) (visits sum : ℕ) (b : Bool) (u us open_after : List ℕ) (totals-after : MarkTotals) : Type 0 where
  pub is : went (state_in bytes t u us open_after totals-after fr.function.0 fr.at visits) (answer b) ≡ total
  pub standing : Standing bytes t types places u us open_after totals-after fr.function.0 fr.at fr.held sum visits
  pub beside : Beside bytes t fr.function.0 fr.at s rs open_marks u us open_after

abbrev pub StatementEnding : {A : Type 0} → (bytes t types : List ℕ) (places : MarkPlaces) (s rs open_marks : List ℕ) (totals : MarkTotals) → Frame → Out A → (Bool → A) → Result Answer Halt → (u us open_after : List ℕ) (totals-after : MarkTotals) → Type 0
StatementEnding bytes t types places s rs open_marks totals fr total answer (Ok a) u us open_after totals-after =
    StatementEnded bytes t types places s rs open_marks totals fr total answer a.tally.visits a.tally.sum a.required u us open_after totals-after
StatementEnding bytes t types places s rs open_marks totals fr total answer (Err h) u us open_after totals-after = halt (number h.refusal) (place_of h.place) ≡ total

pub record StatementEnds {A : Type 0} (bytes t types : List ℕ) (places : MarkPlaces) (s rs open_marks : List ℕ) (totals : MarkTotals) (fr : Frame) (total : Out A) (answer : Bool → A) (r : Result Answer Halt) (u us open_after : List ℕ) (totals-after : MarkTotals) : Type 0 where
  pub by : StatementEnding bytes t types places s rs open_marks totals fr total answer r u us open_after totals-after

abbrev pub StatementEndsOf : {A : Type 0} → World → Workspace → Frame → Out A → (Bool → A) → Result Answer Halt → Workspace → Type 0
StatementEndsOf w m fr total answer r n = StatementEnds w.typed.now.file.now.bytes w.typed.now.file.now.t w.typed.now.types.now w.places.now m.parts.cells m.parts.slots m.open m.totals fr total answer r n.parts.cells n.parts.slots n.open n.totals
