-- The statement Emit: what it asks, and what it leaves of every state that stands so. Its marks say which of its expressions have a record.
use Rattle.std.specs.Prelude.{◌≡◌, List, ℕ, ◌≤◌, length, Result}
use Rattle.field.specs.Limits.{min_report}
use Rattle.module.specs.Decode.{statement_of}
use Rattle.module.specs.Tables.{module_of}
use Rattle.access.specs.Access.{operand_at}
use Rattle.access.specs.declared.kinded.Kinded.{Kinded}
use Rattle.walk.specs.Statement.{BlockWalk, FunctionWalk, add_statement}
use Rattle.marks.specs.declared.totals.MarkTotals.{MarkTotals}
use Rattle.marks.specs.Places.{places_of, Places}
use Rattle.state.specs.Frame.{frame_of}
use Rattle.state.specs.declared.frame.Frame.{Frame}
use Rattle.state.specs.declared.answer.Halt.{Halt}
use Rattle.state.specs.declared.answer.Answer.{Answer}
use Rattle.statement.specs.Leaf.{Arm}
use Rattle.block.specs.Standing.{state_in, Standing}
use Rattle.block.specs.Blocks.{StatementEnds}
use Rattle.block.specs.Visiting.{marked}

pub record EmitAsked (bytes t firsts s rs open_marks : List ℕ) (fr : Frame) (row : Kinded) (sum : ℕ) : Type 0 where
  pub arm : Arm bytes t s rs fr row sum
  pub kind : row.kind ≡ 0
  pub starts : List ℕ
  pub placed : Places bytes t (places_of starts firsts)
  pub long : min_report ≤ length open_marks

pub record EmitEnds (bytes t firsts s rs open_marks : List ℕ) (fr : Frame) (row : Kinded) (sum visits : ℕ) (r : Result Answer Halt) (open_after : List ℕ) : Type 0 where
  pub by : (types starts : List ℕ) (totals : MarkTotals) (call : FunctionWalk) (block : BlockWalk) → Standing bytes t types (places_of starts firsts) s rs open_marks totals fr.function.0 fr.at fr.held sum visits
      → StatementEnds bytes t types (places_of starts firsts) s rs open_marks totals fr
      (marked (module_of bytes t) (frame_of s rs fr)
      (add_statement (module_of bytes t) call block (frame_of s rs fr) (statement_of row.kind (operand_at bytes row)) (state_in bytes t s rs open_marks totals fr.function.0 fr.at visits)))
      (λ b. b) r s rs open_after totals
