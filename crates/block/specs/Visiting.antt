-- The visit of a statement: its arm with its marks, what it asks of the memory, and what it leaves.
use Rattle.std.specs.Prelude.{◌≡◌, Bool, List, ℕ, ◌+◌, ◌≤◌, Result, Ok, Err}
use Rattle.field.specs.Limits.{max_pieces}
use Rattle.field.specs.Refusal.{number}
use Rattle.part.specs.Store.{Room}
use Rattle.module.specs.Module.{Module, FunctionHandle, BlockHandle}
use Rattle.module.specs.Marks.{marks_before}
use Rattle.module.specs.Tables.{module_of}
use Rattle.access.specs.Access.{statement_row}
use Rattle.access.specs.declared.kinded.Kinded.{Kinded}
use Rattle.walk.specs.State.{Out, went, halt, ◌>>=◌, with_marks}
use Rattle.walk.specs.Resolve.{function_at}
use Rattle.walk.specs.Marks.{write_marks}
use Rattle.walk.specs.StatementReq.{StatementReq, required, own_marks}
use Rattle.walk.specs.Statement.{BlockWalk, add_block}
use Rattle.walk.specs.Statement as walk
use Rattle.walk.specs.Function.{add_function}
use Rattle.walk.specs.Proper.{FineContext}
use Rattle.memory.specs.Layout.{stack_slot, room}
use Rattle.memory.specs.Memory.{read, context_at}
use Rattle.marks.specs.declared.places.MarkPlaces.{MarkPlaces}
use Rattle.marks.specs.declared.totals.MarkTotals.{MarkTotals}
use Rattle.marks.specs.Ray.{StatementIn}
use Rattle.state.specs.State.{place_of}
use Rattle.state.specs.declared.frame.Frame.{Frame}
use Rattle.state.specs.declared.answer.Halt.{Halt}
use Rattle.state.specs.declared.answer.Answer.{Answer}
use Rattle.block.specs.Standing.{state_in, Standing}
use Rattle.block.specs.Blocks.{context_in, Deep, Begins, Beside}
use Rattle.block.specs.declared.world.World.{World}
use Rattle.block.specs.declared.workspace.Workspace.{Workspace}

-- the definition's walk of the blocks of f
abbrev pub block_in : (bytes t : List ℕ) → FunctionHandle → BlockWalk
block_in bytes t f = add_block (module_of bytes t) (add_function (module_of bytes t)) f

-- an arm that went as `total` says, with the statement's marks written, and whether the statement is required
abbrev pub marked : Module → walk.Frame → Out StatementReq → Out Bool
marked m fr total = total >>= λ ended req.
    went (with_marks (write_marks ended.marks (marks_before (function_at m fr.function).statements fr.statement) (own_marks req)) ended) (required req)

-- what the visit of a statement asks, that stands in the block b
pub record Visits (bytes t types : List ℕ) (places : MarkPlaces) (s rs open_marks : List ℕ) (totals : MarkTotals) (fr : Frame) (b : BlockHandle) (sum visits : ℕ) : Type 0 where
  pub standing : Standing bytes t types places s rs open_marks totals fr.function.0 fr.at fr.held sum visits
  pub within : StatementIn bytes t fr.function.0 b fr.statement
  pub base_low : stack_slot ≤ fr.base
  pub base_below : fr.base + 4 ≤ fr.at
  pub base_fine : FineContext (module_of bytes t) fr.function.0 (context_at (read s rs) fr.base)
  pub base_held : context_in s rs fr.base ≤ fr.held
  pub deep : Deep bytes t rs fr.function.0 b fr.at

abbrev pub VisitsOf : World → Workspace → Frame → BlockHandle → ℕ → ℕ → Type 0
VisitsOf w m fr b sum visits = Visits w.typed.now.file.now.bytes w.typed.now.file.now.t w.typed.now.types.now w.places.now m.parts.cells m.parts.slots m.open m.totals fr b sum visits

-- what its arm asks, once the visit has begun: the row is the statement's
pub record Arms (bytes t types : List ℕ) (places : MarkPlaces) (s rs open_marks : List ℕ) (totals : MarkTotals) (fr : Frame) (b : BlockHandle) (row : Kinded) (sum visits : ℕ) : Type 0 where
  pub begins : Begins bytes t types places s rs open_marks totals fr b sum visits
  pub within : StatementIn bytes t fr.function.0 b fr.statement
  pub is : row ≡ statement_row bytes t fr.function.0 fr.statement

abbrev pub ArmsOf : World → Workspace → Frame → BlockHandle → Kinded → ℕ → ℕ → Type 0
ArmsOf w m fr b row sum visits = Arms w.typed.now.file.now.bytes w.typed.now.file.now.t w.typed.now.types.now w.places.now m.parts.cells m.parts.slots m.open m.totals fr b row sum visits

-- the visit went as `total` says, and 16 was asked as it ended
pub record VisitEnded (bytes t types : List ℕ) (places : MarkPlaces) (s rs open_marks : List ℕ) (totals : MarkTotals) (fr : Frame) (total : Out Bool) (visits sum : ℕ) (b : Bool) (u us open_after : List ℕ) (totals-after : MarkTotals) : Type 0 where
  pub is : went (state_in bytes t u us open_after totals-after fr.function.0 fr.at visits) b ≡ total
  pub standing : Standing bytes t types places u us open_after totals-after fr.function.0 fr.at fr.held sum visits
  pub few : fr.held + (context_in u us fr.at + sum) ≤ max_pieces
  pub roomy : Room u room
  pub beside : Beside bytes t fr.function.0 fr.at s rs open_marks u us open_after

abbrev pub VisitEnding : (bytes t types : List ℕ) (places : MarkPlaces) (s rs open_marks : List ℕ) (totals : MarkTotals) → Frame → Out Bool → Result Answer Halt → (u us open_after : List ℕ) (totals-after : MarkTotals) → Type 0
VisitEnding bytes t types places s rs open_marks totals fr total (Ok a) u us open_after totals-after =
    VisitEnded bytes t types places s rs open_marks totals fr total a.tally.visits a.tally.sum a.required u us open_after totals-after
VisitEnding bytes t types places s rs open_marks totals fr total (Err h) u us open_after totals-after = halt (number h.refusal) (place_of h.place) ≡ total

pub record VisitEnds (bytes t types : List ℕ) (places : MarkPlaces) (s rs open_marks : List ℕ) (totals : MarkTotals) (fr : Frame) (total : Out Bool) (r : Result Answer Halt) (u us open_after : List ℕ) (totals-after : MarkTotals) : Type 0 where
  pub by : VisitEnding bytes t types places s rs open_marks totals fr total r u us open_after totals-after

abbrev pub VisitEndsOf : World → Workspace → Frame → Out Bool → Result Answer Halt → Workspace → Type 0
VisitEndsOf w m fr total r n = VisitEnds w.typed.now.file.now.bytes w.typed.now.file.now.t w.typed.now.types.now w.places.now m.parts.cells m.parts.slots m.open m.totals fr total r n.parts.cells n.parts.slots n.open n.totals
