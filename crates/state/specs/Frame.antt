-- What the arm of a statement asks of the memory once its visit has begun, and what it leaves.
use Rattle.std.specs.Prelude.{◌≡◌, Bool, List, ℕ, ◌+◌, ◌<◌, ◌≤◌, length, get_or, Result, Ok, Err}
use Rattle.field.specs.Limits.{max_pieces}
use Rattle.field.specs.Refusal.{number}
use Rattle.part.specs.PartReq.{none}
use Rattle.part.specs.Store.{Room}
use Rattle.module.specs.Module.{FunctionHandle}
use Rattle.module.specs.Tables.{row_at, module_of}
use Rattle.context.specs.RequiredContext.{pieces}
use Rattle.walk.specs.State.{Out, went, halt}
use Rattle.walk.specs.Statement as walk
use Rattle.walk.specs.Proper.{FineContext, FineRecords}
use Rattle.memory.specs.Layout.{globals_slot, exprs_slot, stack_slot, room}
use Rattle.memory.specs.Memory.{read, context_at}
use Rattle.state.specs.declared.answer.Answer.{Answer}
use Rattle.state.specs.declared.answer.Halt.{Halt}
use Rattle.state.specs.declared.frame.Frame.{Frame}
use Rattle.state.specs.State.{Rest, state_of, records_in, place_of}
use Rattle.state.specs.Ready.{Ready, Elsewhere}

-- the frame that the code's stands for
abbrev pub frame_of : (s rs : List ℕ) → Frame → walk.Frame
frame_of s rs fr =
    record {
      function = fr.function.0;
      statement = fr.statement;
      held = fr.held;
      base = context_at (read s rs) fr.base;
      break_required = fr.break_required;
    }

-- the visit of a statement has begun
pub record Begun (bytes t s rs : List ℕ) (fr : Frame) (sum : ℕ) : Type 0 where
  pub ready : Ready bytes t s rs fr.function.0 fr.at fr.held sum
  pub statement : fr.statement < (row_at t fr.function.0).statements
  pub few : fr.held + (pieces (context_at (read s rs) fr.at) + sum) ≤ max_pieces
  pub roomy : Room s room
  pub base_low : stack_slot ≤ fr.base
  pub base_below : fr.base + 4 ≤ fr.at
  pub base_few : pieces (context_at (read s rs) fr.base) ≤ max_pieces
  pub fine : FineContext (module_of bytes t) fr.function.0 (context_at (read s rs) fr.at)
  pub base_fine : FineContext (module_of bytes t) fr.function.0 (context_at (read s rs) fr.base)
  pub exprs : FineRecords (module_of bytes t) fr.function.0 (records_in t exprs_slot fr.function.0 (read s rs))

-- no other slot that 16 counts means anything else than before. Those that an arm asks with are not counted.
pub record Apart (t : List ℕ) (f : FunctionHandle) (at : ℕ) (s rs u us : List ℕ) : Type 0 where
  pub long : length us ≡ length rs
  pub same : (k : ℕ) → globals_slot ≤ k → Elsewhere t f at k → get_or (read u us) k none ≡ get_or (read s rs) k none

-- the arm went as `total` says, with `answer` for its answer b, and left u and us
pub record ArmEnded {A : Type 0} (bytes t s rs : List ℕ) (fr : Frame) (rest : Rest) (total : Out A) (answer : Bool → A) (visits sum : ℕ) (b : Bool) (u us : List ℕ) : Type 0 where
  pub is : went (state_of t fr.function.0 fr.at (read u us) rest visits) (answer b) ≡ total
  pub ready : Ready bytes t u us fr.function.0 fr.at fr.held sum
  pub apart : Apart t fr.function.0 fr.at s rs u us

abbrev pub ArmEnding : {A : Type 0} → (bytes t s rs : List ℕ) → Frame → Rest → Out A → (Bool → A) → Result Answer Halt → (u us : List ℕ) → Type 0
ArmEnding bytes t s rs fr rest total answer (Ok a) u us =
    ArmEnded bytes t s rs fr rest total answer a.tally.visits a.tally.sum a.required u us
ArmEnding bytes t s rs fr rest total answer (Err h) u us = halt (number h.refusal) (place_of h.place) ≡ total

-- the answer of an arm, and the memory that is left, are what `total` says
pub record ArmEnds {A : Type 0} (bytes t s rs : List ℕ) (fr : Frame) (rest : Rest) (total : Out A) (answer : Bool → A) (r : Result Answer Halt) (u us : List ℕ) : Type 0 where
  pub by : ArmEnding bytes t s rs fr rest total answer r u us
