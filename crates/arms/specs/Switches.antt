-- The statement Switch: the join of a case to those before it, and its end once its cases are walked.
use Rattle.std.specs.Prelude.{◌≡◌, Bool, true, false, List, ℕ, ◌+◌, ◌<◌, ◌≤◌, length, Result}
use Rattle.field.specs.Limits.{max_pieces}
use Rattle.part.specs.Store.{Room}
use Rattle.module.specs.Tables.{module_of}
use Rattle.context.specs.RequiredContext.{RequiredContext, merge_context, over_context}
use Rattle.walk.specs.Resolve.{function_at}
use Rattle.walk.specs.StatementReq.{StatementReq}
use Rattle.walk.specs.Statement.{end_switch}
use Rattle.walk.specs.Proper.{FineContext}
use Rattle.memory.specs.Layout.{stack_slot, room, most}
use Rattle.memory.specs.Memory.{read, counted, context_at, Memory}
use Rattle.marks.specs.declared.places.MarkPlaces.{MarkPlaces}
use Rattle.marks.specs.declared.totals.MarkTotals.{MarkTotals}
use Rattle.state.specs.Frame.{frame_of}
use Rattle.state.specs.declared.frame.Frame.{Frame}
use Rattle.state.specs.declared.answer.Halt.{Halt}
use Rattle.state.specs.declared.answer.Answer.{Answer}
use Rattle.block.specs.Saved.{Popped}
use Rattle.block.specs.Standing.{state_in, Standing}
use Rattle.block.specs.Blocks.{context_in, StatementEnds}

-- What the end of a case asks: the cases joined so far stand at k, and the case behind them.
pub record Casing (s rs : List ℕ) (k : ℕ) : Type 0 where
  pub memory : Memory s rs
  pub low : stack_slot ≤ k
  pub high : k + 8 ≤ length rs
  pub roomy : Room s (context_in s rs k + context_in s rs (k + 4))
  pub few : counted (read s rs) ≤ most

abbrev pub with_case : (s rs : List ℕ) (k : ℕ) → RequiredContext
with_case s rs k = merge_context (context_at (read s rs) k) (context_at (read s rs) (k + 4))

-- the join stands at k, and a visit has room
pub record CaseJoined (s rs : List ℕ) (k : ℕ) (u us : List ℕ) : Type 0 where
  pub within : over_context (with_case s rs k) ≡ false
  pub popped : Popped s rs k (with_case s rs k) u us
  pub roomy : Room u room

-- it passes a limit, or stands there
abbrev pub CaseEnding : (s rs : List ℕ) (k : ℕ) → Bool → (u us : List ℕ) → Type 0
CaseEnding s rs k true u us = over_context (with_case s rs k) ≡ true
CaseEnding s rs k false u us = CaseJoined s rs k u us

pub record CaseEnds (s rs : List ℕ) (k : ℕ) (r : Bool) (u us : List ℕ) : Type 0 where
  pub by : CaseEnding s rs k r u us

-- What the end of a Switch finds: the statement's context, and above it the cases joined.
pub record Switched (bytes t types : List ℕ) (places : MarkPlaces) (s rs open_marks : List ℕ) (totals : MarkTotals) (fr : Frame) (sum visits : ℕ) : Type 0 where
  pub standing : Standing bytes t types places s rs open_marks totals fr.function.0 (fr.at + 4) (fr.held + context_in s rs fr.at) sum visits
  pub low : stack_slot ≤ fr.at
  pub outer_fine : FineContext (module_of bytes t) fr.function.0 (context_at (read s rs) fr.at)
  pub few : context_in s rs (fr.at + 4) ≤ max_pieces
  pub roomy : Room s room

-- with some marks, totals and tables
pub record EndingSwitch (bytes t s rs : List ℕ) (fr : Frame) (selector sum visits : ℕ) : Type 0 where
  pub types : List ℕ
  pub places : MarkPlaces
  pub open_marks : List ℕ
  pub totals : MarkTotals
  pub switched : Switched bytes t types places s rs open_marks totals fr sum visits
  pub there : selector < length (function_at (module_of bytes t) fr.function.0).expressions

-- it ends as the definition says, whatever those are
pub record SwitchEnds (bytes t s rs : List ℕ) (fr : Frame) (selector : ℕ) (required : Bool) (sum visits : ℕ) (r : Result Answer Halt) (u us : List ℕ) : Type 0 where
  pub by : (types : List ℕ) (places : MarkPlaces) (open_marks : List ℕ) (totals : MarkTotals) → Switched bytes t types places s rs open_marks totals fr sum visits
      → StatementEnds bytes t types places s rs open_marks totals fr
      (end_switch (module_of bytes t) (frame_of s rs fr) selector (context_at (read s rs) fr.at) required
      (state_in bytes t s rs open_marks totals fr.function.0 (fr.at + 4) visits))
      StatementReq.Switch r u us open_marks totals
