-- How the visit of a statement ends: its one mark is written, where its kind has one, and 16 is asked. What both ask, and what they leave of every state that stands so.
use Rattle.std.specs.Prelude.{◌≡◌, Bool, true, false, List, [], ◌∷◌, ℕ, ◌<◌, ◌≤◌, length, Result, Ok, Err}
use Rattle.field.specs.Limits.{min_report}
use Rattle.module.specs.Decode.{statement_of}
use Rattle.module.specs.Tables.{row_at, module_of}
use Rattle.access.specs.Access.{operand_at, statement_row}
use Rattle.access.specs.declared.kinded.Kinded.{Kinded}
use Rattle.walk.specs.State.{Out, went, at_statement, counted, ◌>>=◌, ◌>>◌}
use Rattle.walk.specs.StatementReq.{StatementReq, mark}
use Rattle.marks.specs.declared.places.MarkPlaces.{MarkPlaces}
use Rattle.marks.specs.declared.totals.MarkTotals.{MarkTotals}
use Rattle.marks.specs.Places.{places_of, Places}
use Rattle.access.specs.Laid.{WasRead}
use Rattle.state.specs.Frame.{frame_of}
use Rattle.state.specs.declared.frame.Frame.{Frame}
use Rattle.state.specs.declared.answer.Halt.{Halt}
use Rattle.state.specs.declared.answer.Answer.{Answer}
use Rattle.expression.specs.Visits.{Counting}
use Rattle.statement.specs.Leaf.{leaf_req}
use Rattle.block.specs.Blocks.{StatementEnds}
use Rattle.block.specs.Visiting.{marked, VisitEnds}

-- the own marks of a statement that has one or none
abbrev pub mark_when : (has b : Bool) → List ℕ
mark_when true b = mark b ∷ []
mark_when false b = []

-- the row is the statement's, and its marks have room in the buffer
pub record Marking (t firsts open_marks : List ℕ) (fr : Frame) (row : Kinded) : Type 0 where
  pub bytes : List ℕ
  pub starts : List ℕ
  pub was_read : WasRead bytes t
  pub placed : Places bytes t (places_of starts firsts)
  pub function : fr.function.0 < length (module_of bytes t).functions
  pub statement : fr.statement < (row_at t fr.function.0).statements
  pub is : row ≡ statement_row bytes t fr.function.0 fr.statement
  pub long : min_report ≤ length open_marks

abbrev pub MarkingWhen : (t firsts open_marks : List ℕ) → Frame → Kinded → Result Answer Halt → Type 0
MarkingWhen t firsts open_marks fr row (Ok a) = Marking t firsts open_marks fr row
MarkingWhen t firsts open_marks fr row (Err h) = Unit {0}

pub record MarkAsked (t firsts open_marks : List ℕ) (fr : Frame) (row : Kinded) (r : Result Answer Halt) : Type 0 where
  pub by : MarkingWhen t firsts open_marks fr row r

-- an arm that answered r, with its marks, answers q
pub record MarkEnds (t firsts open_marks : List ℕ) (fr : Frame) (row : Kinded) (r q : Result Answer Halt) (open_after : List ℕ) : Type 0 where
  pub by : (bytes types starts s rs before : List ℕ) (totals : MarkTotals) (u us : List ℕ) (totals-after : MarkTotals) (total : Out StatementReq) → fr.statement < (row_at t fr.function.0).statements
      → row ≡ statement_row bytes t fr.function.0 fr.statement
      → StatementEnds bytes t types (places_of starts firsts) s rs before totals fr total (leaf_req (statement_of row.kind (operand_at bytes row))) r u us open_marks totals-after
      → StatementEnds bytes t types (places_of starts firsts) s rs before totals fr (marked (module_of bytes t) (frame_of s rs fr) total) (λ b. b) q u us open_after totals-after

-- 16 can be asked
abbrev pub CountingWhen : (s rs : List ℕ) → Frame → Result Answer Halt → Type 0
CountingWhen s rs fr (Ok a) = Counting s rs fr.at fr.held a.tally.sum
CountingWhen s rs fr (Err h) = Unit {0}

pub record LastAsked (s rs : List ℕ) (fr : Frame) (r : Result Answer Halt) : Type 0 where
  pub by : CountingWhen s rs fr r

-- 16, of what a visit leaves
abbrev pub last : Frame → Out Bool → Out Bool
last fr total = total >>= λ ended a. counted fr.held (at_statement fr.function.0 fr.statement) ended >> λ left. went left a

-- an arm with its marks that answered r, and 16 then, answer q
pub record LastEnds (u us : List ℕ) (fr : Frame) (r q : Result Answer Halt) (v vs : List ℕ) : Type 0 where
  pub by : (bytes t types : List ℕ) (places : MarkPlaces) (s rs open_marks : List ℕ) (totals : MarkTotals) (open_after : List ℕ) (totals-after : MarkTotals) (total : Out Bool)
      → StatementEnds bytes t types places s rs open_marks totals fr total (λ b. b) r u us open_after totals-after
      → VisitEnds bytes t types places s rs open_marks totals fr (last fr total) q v vs open_after totals-after
