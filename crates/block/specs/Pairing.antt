-- Two blocks one after the other, from one base: those of an If, and of a loop's first pass and turns.
use Rattle.std.specs.Prelude.{◌≡◌, Bool, ◌||◌, List, ℕ, ◌+◌, ◌*◌, ◌<◌, ◌≤◌, Result, Ok, Err}
use Rattle.field.specs.Limits.{max_pieces}
use Rattle.field.specs.Refusal.{number}
use Rattle.part.specs.Store.{Room}
use Rattle.module.specs.Module.{FunctionHandle, BlockHandle}
use Rattle.module.specs.Tables.{row_at, module_of}
use Rattle.context.specs.RequiredContext.{RequiredContext, pieces}
use Rattle.walk.specs.State.{Out, went, halt, Walk, ◌>>=◌}
use Rattle.walk.specs.Statement.{BlockWalk}
use Rattle.walk.specs.Proper.{FineContext}
use Rattle.memory.specs.Layout.{stack_slot, room}
use Rattle.memory.specs.Memory.{read, context_at}
use Rattle.marks.specs.declared.places.MarkPlaces.{MarkPlaces}
use Rattle.marks.specs.declared.totals.MarkTotals.{MarkTotals}
use Rattle.state.specs.State.{sum_in, place_of}
use Rattle.state.specs.declared.frame.Frame.{Frame}
use Rattle.state.specs.declared.answer.Halt.{Halt}
use Rattle.state.specs.declared.answer.Answer.{Answer}
use Rattle.block.specs.Standing.{state_in, Standing}
use Rattle.block.specs.Blocks.{context_in, Deep, Beside}
use Rattle.block.specs.declared.world.World.{World}
use Rattle.block.specs.declared.workspace.Workspace.{Workspace}

-- The first one's context is held while the second is walked. The answer has that context, and whether either is required.
unfoldable pub add_pair : BlockWalk → (first second : BlockHandle) → (held : ℕ) → (base : RequiredContext) → (break_required : Bool) → Walk (RequiredContext × Bool)
add_pair block first second held base break_required st =
    block first held base break_required st >>= λ walked a.
    block second (held + pieces walked.context) base break_required walked >>= λ continued c. went continued (walked.context, a || c)

-- What they ask, as blocks that a statement of the block b holds. The first one's context is to stand at `at`, the second one's behind it.
pub record Paired (bytes t types : List ℕ) (places : MarkPlaces) (s rs open_marks : List ℕ) (totals : MarkTotals) (f : FunctionHandle) (b first second : BlockHandle) (base at held sum visits : ℕ) : Type 0 where
  pub standing : Standing bytes t types places s rs open_marks totals f at held sum visits
  pub empty : context_in s rs at ≡ 0
  pub block : b < (row_at t f).blocks
  pub first_lower : first < b
  pub second_lower : second < b
  pub base_low : stack_slot ≤ base
  pub base_below : base + 4 ≤ at
  pub base_fine : FineContext (module_of bytes t) f (context_at (read s rs) base)
  pub base_few : context_in s rs base ≤ 2 * max_pieces
  pub few : held + sum ≤ 3 * max_pieces
  pub first_deep : Deep bytes t rs f first at
  pub second_deep : Deep bytes t rs f second (at + 4)
  pub roomy : Room s room

abbrev pub PairedOf : World → Workspace → FunctionHandle → BlockHandle → BlockHandle → BlockHandle → ℕ → ℕ → ℕ → ℕ → ℕ → Type 0
PairedOf w m f b first second base at held sum visits = Paired w.typed.now.file.now.bytes w.typed.now.file.now.t w.typed.now.types.now w.places.now m.parts.cells m.parts.slots m.open m.totals f b first second base at held sum visits

pub record PairEnded (bytes t types : List ℕ) (places : MarkPlaces) (s rs open_marks : List ℕ) (totals : MarkTotals) (f : FunctionHandle) (base at held : ℕ) (total : Out (RequiredContext × Bool)) (visits sum : ℕ) (b : Bool) (u us open_after : List ℕ) (totals-after : MarkTotals) : Type 0 where
  pub is : went (state_in bytes t u us open_after totals-after f (at + 4) visits) (context_at (read u us) at, b) ≡ total
  pub standing : Standing bytes t types places u us open_after totals-after f (at + 4) (held + context_in u us at) sum visits
  pub first_fine : FineContext (module_of bytes t) f (context_at (read u us) at)
  pub few : (n : ℕ) → context_in s rs base ≤ n → max_pieces ≤ n → (context_in u us at ≤ n) × (context_in u us (at + 4) ≤ n)
  pub sum_few : (k n : ℕ) → k ≤ held → k + sum_in t f (read s rs) ≤ n → max_pieces ≤ n → k + sum ≤ n
  pub roomy : Room u room
  pub beside : Beside bytes t f at s rs open_marks u us open_after

abbrev pub PairEnding : (bytes t types : List ℕ) (places : MarkPlaces) (s rs open_marks : List ℕ) (totals : MarkTotals) → FunctionHandle → (base at held : ℕ) → Out (RequiredContext × Bool) → Result Answer Halt → (u us open_after : List ℕ) (totals-after : MarkTotals) → Type 0
PairEnding bytes t types places s rs open_marks totals f base at held total (Ok a) u us open_after totals-after =
    PairEnded bytes t types places s rs open_marks totals f base at held total a.tally.visits a.tally.sum a.required u us open_after totals-after
PairEnding bytes t types places s rs open_marks totals f base at held total (Err h) u us open_after totals-after = halt (number h.refusal) (place_of h.place) ≡ total

pub record PairEnds (bytes t types : List ℕ) (places : MarkPlaces) (s rs open_marks : List ℕ) (totals : MarkTotals) (f : FunctionHandle) (base at held : ℕ) (total : Out (RequiredContext × Bool)) (r : Result Answer Halt) (u us open_after : List ℕ) (totals-after : MarkTotals) : Type 0 where
  pub by : PairEnding bytes t types places s rs open_marks totals f base at held total r u us open_after totals-after

abbrev pub PairEndsOf : World → Workspace → FunctionHandle → ℕ → ℕ → ℕ → Out (RequiredContext × Bool) → Result Answer Halt → Workspace → Type 0
PairEndsOf w m f base at held total r n = PairEnds w.typed.now.file.now.bytes w.typed.now.file.now.t w.typed.now.types.now w.places.now m.parts.cells m.parts.slots m.open m.totals f base at held total r n.parts.cells n.parts.slots n.open n.totals

-- What the end of an If and of a loop's first pass finds: the statement's context, and above it those that its two blocks have left.
pub record Branched (bytes t types : List ℕ) (places : MarkPlaces) (s rs open_marks : List ℕ) (totals : MarkTotals) (fr : Frame) (sum visits : ℕ) : Type 0 where
  pub standing : Standing bytes t types places s rs open_marks totals fr.function.0 (fr.at + 4 + 4) (fr.held + context_in s rs fr.at + context_in s rs (fr.at + 4)) sum visits
  pub low : stack_slot ≤ fr.at
  pub outer_fine : FineContext (module_of bytes t) fr.function.0 (context_at (read s rs) fr.at)
  pub first_fine : FineContext (module_of bytes t) fr.function.0 (context_at (read s rs) (fr.at + 4))
  pub few : fr.held + (context_in s rs fr.at + sum) ≤ max_pieces
  pub first_few : context_in s rs (fr.at + 4) ≤ max_pieces
  pub second_few : context_in s rs (fr.at + 4 + 4) ≤ max_pieces
  pub roomy : Room s room
