-- How an If ends, once its two blocks are walked.
use Rattle.std.specs.Prelude.{Bool, List, ℕ, ◌+◌, Result}
use Rattle.module.specs.Module.{ExpressionHandle}
use Rattle.module.specs.Tables.{module_of}
use Rattle.walk.specs.State.{Out}
use Rattle.walk.specs.StatementReq.{StatementReq}
use Rattle.walk.specs.Statement.{end_if}
use Rattle.memory.specs.Memory.{read, context_at}
use Rattle.marks.specs.declared.places.MarkPlaces.{MarkPlaces}
use Rattle.marks.specs.declared.totals.MarkTotals.{MarkTotals}
use Rattle.state.specs.Frame.{frame_of}
use Rattle.state.specs.declared.frame.Frame.{Frame}
use Rattle.state.specs.declared.answer.Halt.{Halt}
use Rattle.state.specs.declared.answer.Answer.{Answer}
use Rattle.block.specs.Standing.{state_in}
use Rattle.block.specs.Blocks.{StatementEnds}
use Rattle.block.specs.Pairing.{Branched}

-- what it asks: some types, places and marks are there with which the memory is as the blocks have left it
pub record IfAsked (bytes t s rs : List ℕ) (fr : Frame) (sum visits : ℕ) : Type 0 where
  pub types : List ℕ
  pub places : MarkPlaces
  pub open_marks : List ℕ
  pub totals : MarkTotals
  pub branched : Branched bytes t types places s rs open_marks totals fr sum visits

-- the definition's end, in the state that the blocks have left
abbrev pub end_in : (bytes t s rs open_marks : List ℕ) (totals : MarkTotals) → Frame → ExpressionHandle → (required : Bool) → (visits : ℕ) → Out StatementReq
end_in bytes t s rs open_marks totals fr condition required visits =
    end_if (module_of bytes t) (frame_of s rs fr) condition (context_at (read s rs) fr.at) (context_at (read s rs) (fr.at + 4)) required
    (state_in bytes t s rs open_marks totals fr.function.0 (fr.at + 4 + 4) visits)

-- the answer, and the memory that is left, are the definition's for whatever types, places and marks are there
pub record IfEnds (bytes t s rs : List ℕ) (fr : Frame) (condition : ExpressionHandle) (required : Bool) (sum visits : ℕ) (r : Result Answer Halt) (u us : List ℕ) : Type 0 where
  pub by : (types : List ℕ) (places : MarkPlaces) (open_marks : List ℕ) (totals : MarkTotals) → Branched bytes t types places s rs open_marks totals fr sum visits
      → StatementEnds bytes t types places s rs open_marks totals fr (end_in bytes t s rs open_marks totals fr condition required visits) StatementReq.If r u us open_marks totals
