-- The statement Call, but for the walk of the called function: what its beginning, the end of that function and its own end ask and leave.
use Rattle.std.specs.Prelude.{◌≡◌, Bool, true, false, List, [], ◌∷◌, ℕ, ◌+◌, ◌<◌, ◌≤◌, length, get_or, replicate, Option as Found, Some, None, Result, Ok, Err}
use Rattle.std.proofs.Math.Option.{Option}
use Rattle.field.specs.Limits.{max_pieces}
use Rattle.part.specs.PartReq.{none, Subpart, gone, there}
use Rattle.part.specs.Store.{part, Room}
use Rattle.part.specs.StoreLimits.{entries_cap}
use Rattle.module.specs.Module.{FunctionHandle, ExpressionHandle}
use Rattle.module.specs.Decode.{option_of}
use Rattle.module.specs.Tables.{module_of, row_at}
use Rattle.access.specs.Access.{operand_at, statement_row}
use Rattle.access.specs.declared.kinded.Kinded.{Kinded}
use Rattle.context.specs.RequiredContext.{RequiredContext}
use Rattle.walk.specs.State.{record_pieces}
use Rattle.walk.specs.Marks.{write_marks}
use Rattle.walk.specs.Resolve.{function_at}
use Rattle.walk.specs.StatementReq.{mark}
use Rattle.walk.specs.Statement.{record_of, retval_of, end_call}
use Rattle.walk.specs.Proper.{Variables}
use Rattle.memory.specs.Layout.{exprs_slot, returned, room}
use Rattle.memory.specs.Memory.{read, context_at, Memory}
use Rattle.marks.specs.declared.totals.MarkTotals.{MarkTotals}
use Rattle.marks.specs.Places.{places_of, start_in, size_in}
use Rattle.state.specs.State.{records_in}
use Rattle.state.specs.Frame.{frame_of}
use Rattle.state.specs.declared.frame.Frame.{Frame}
use Rattle.state.specs.declared.answer.Halt.{Halt}
use Rattle.state.specs.declared.answer.Answer.{Answer}
use Rattle.call.specs.Calls.{arguments_of}
use Rattle.leave.specs.Leave.{Placed, own_in, left_slots}
use Rattle.block.specs.Standing.{state_in, Standing}
use Rattle.block.specs.Saved.{Saved}
use Rattle.block.specs.Blocks.{StatementEnds}
use Rattle.block.specs.Visiting.{marked, Arms}
use Rattle.block.specs.Left.{held_by}

-- the result of the call in a row, which may be absent
abbrev pub result_of : List ℕ → Kinded → Option ExpressionHandle
result_of bytes row = option_of (operand_at bytes row (2 + operand_at bytes row 1))

-- what the open function f needs of that result
abbrev pub result_need : (bytes t s rs : List ℕ) → FunctionHandle → Kinded → Subpart
result_need bytes t s rs f row = record_of (records_in t exprs_slot f (read s rs)) (result_of bytes row)

-- the subpart that was found
abbrev pub found_part : List ℕ → Found ℕ → Subpart
found_part s None = gone
found_part s (Some n) = there (part s n)

abbrev pub was_found : Found ℕ → Bool
was_found None = false
was_found (Some n) = true

-- the context that the called function begins with: what is needed of the globals, and of the result
abbrev pub called_context : (bytes t s rs : List ℕ) → FunctionHandle → (at : ℕ) → Kinded → RequiredContext
called_context bytes t s rs f at row =
    record { globals = (context_at (read s rs) at).globals; locals = none; args = none; retval = retval_of (result_need bytes t s rs f row) }

-- what a call asks as it begins
pub record CallBegins (bytes t starts s rs open_marks : List ℕ) (fr : Frame) (row : Kinded) (sum : ℕ) : Type 0 where
  pub types : List ℕ
  pub firsts : List ℕ
  pub totals : MarkTotals
  pub block : ℕ
  pub visits : ℕ
  pub arms : Arms bytes t types (places_of starts firsts) s rs open_marks totals fr block row sum visits
  pub kind : row.kind ≡ 14

-- The context of the called function stands above the caller's, and no mark of that function is set. `own` is what the caller's records count for; they are held, with its context.
pub record CallBegan (bytes t starts s rs open_marks : List ℕ) (fr : Frame) (row : Kinded) (held own : ℕ) (u us open_after : List ℕ) : Type 0 where
  pub own_is : own ≡ record_pieces (records_in t exprs_slot fr.function.0 (read s rs))
  pub held_is : held ≡ held_by t s rs fr.function.0 fr.at fr.held
  pub saved : Saved s rs (fr.at + 4) (called_context bytes t s rs fr.function.0 fr.at row) u us
  pub marks : open_after ≡ write_marks open_marks (start_in starts (operand_at bytes row 0)) (replicate (size_in starts (operand_at bytes row 0)) 0)
  pub roomy : Room u room

-- What the end of the called function g asks, whose base stands above the caller's context at `at`, and its own above that. `sum` has the records of g.
pub record LeavesCall (t s rs : List ℕ) (g : FunctionHandle) (at sum : ℕ) : Type 0 where
  pub memory : Memory s rs
  pub placed : Placed t rs g
  pub high : at + 12 ≤ length rs
  pub few : own_in t s rs g ≤ entries_cap
  pub counts : own_in t s rs g ≤ sum

-- g was left, and `sum` has become m
pub record LeftCall (t s rs : List ℕ) (g : FunctionHandle) (at sum m : ℕ) (us : List ℕ) : Type 0 where
  pub slots : us ≡ left_slots t rs g (at + 4) (at + 8)
  pub sums : m + own_in t s rs g ≡ sum

-- What a call asks as it ends: the slot RETURNED has what the called function needs of its arguments.
pub record Returns (bytes t firsts s rs open_marks : List ℕ) (fr : Frame) (row : Kinded) (visits sum : ℕ) : Type 0 where
  pub types : List ℕ
  pub starts : List ℕ
  pub totals : MarkTotals
  pub standing : Standing bytes t types (places_of starts firsts) s rs open_marks totals fr.function.0 fr.at fr.held sum visits
  pub statement : fr.statement < (row_at t fr.function.0).statements
  pub is : row ≡ statement_row bytes t fr.function.0 fr.statement
  pub kind : row.kind ≡ 14
  pub callee : FunctionHandle
  pub args : Variables (length (function_at (module_of bytes t) callee).arguments) (part s (get_or rs returned 0))
  pub few : record_pieces (records_in t exprs_slot fr.function.0 (read s rs)) ≤ max_pieces

-- the call has ended as the definition says, and its marks are written
pub record Returned (bytes t firsts s rs open_marks : List ℕ) (fr : Frame) (row : Kinded) (required : Bool) (visits sum : ℕ) (r : Result Answer Halt) (u us open_after : List ℕ) : Type 0 where
  pub by : (types starts : List ℕ) (totals : MarkTotals) → Standing bytes t types (places_of starts firsts) s rs open_marks totals fr.function.0 fr.at fr.held sum visits
      → StatementEnds bytes t types (places_of starts firsts) s rs open_marks totals fr
      (marked (module_of bytes t) (frame_of s rs fr)
      (end_call (module_of bytes t) (frame_of s rs fr) (arguments_of bytes row (operand_at bytes row 1)) (result_of bytes row) (result_need bytes t s rs fr.function.0 row)
      (part s (get_or rs returned 0)) required (state_in bytes t s rs open_marks totals fr.function.0 fr.at visits)))
      (λ b. b) r u us open_after totals

-- the marks of a call that went, whose result is required or not
abbrev pub call_marks : List ℕ → (at : ℕ) → Bool → Result Answer Halt → List ℕ
call_marks open_marks at result (Ok a) = write_marks open_marks at (mark a.required ∷ mark result ∷ [])
call_marks open_marks at result (Err h) = open_marks
