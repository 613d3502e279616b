-- The report's lines as the walk's memory has them, and what they are written from.
use Rattle.std.specs.Prelude.{◌≡◌, Bool, List, [], ℕ, ◌+◌, ◌*◌, ◌<◌, ◌≤◌, length, get_or}
use Rattle.field.specs.Limits.{max_expressions, max_statements, max_pieces, min_report}
use Rattle.module.specs.Module.{FunctionHandle}
use Rattle.module.specs.Tables.{function_of, module_of}
use Rattle.access.specs.Access.{statement_number}
use Rattle.context.specs.RequiredContext.{pieces}
use Rattle.walk.specs.State.{record_pieces}
use Rattle.walk.specs.Resolve.{function_at}
use Rattle.walk.specs.Marks.{stretch}
use Rattle.walk.specs.Requests.{Report}
use Rattle.walk.specs.Proper.{FineContext, FineRecords}
use Rattle.memory.specs.Layout.{exprs_slot}
use Rattle.memory.specs.Memory.{read, context_at, Memory}
use Rattle.state.specs.State.{records_in}
use Rattle.access.specs.Laid.{WasRead}
use Rattle.marks.specs.declared.places.MarkPlaces.{MarkPlaces}
use Rattle.marks.specs.Places.{slice, start_of, mark_place, Places}
use Rattle.lines.specs.Text.{statements_text, report_text}

-- the statements of f, and their marks in the buffer of the open functions
pub record Marked (bytes t : List ℕ) (places : MarkPlaces) (open_marks : List ℕ) (f : FunctionHandle) : Type 0 where
  pub was_read : WasRead bytes t
  pub function : f < length (module_of bytes t).functions
  pub placed : Places bytes t places
  pub long : min_report ≤ length open_marks

-- what the lines of the statements of f are written from: of where marks stand, the places of these statements
pub record MarkedIn (bytes t firsts open_marks : List ℕ) (f : FunctionHandle) : Type 0 where
  pub was_read : WasRead bytes t
  pub function : f < length (module_of bytes t).functions
  pub placed : (s : ℕ) → s < length (function_of bytes t f).statements → get_or firsts (statement_number t f s) 0 ≡ mark_place (module_of bytes t) f s
  pub long : min_report ≤ length open_marks

unfoldable pub statements_in : (bytes t open_marks : List ℕ) → FunctionHandle → List ℕ
statements_in bytes t open_marks f =
    let m = module_of bytes t in statements_text 0 (function_at m f).statements (slice open_marks (start_of m f) (stretch m f))

-- the report on f, whose context stands in the slots from `at` on. The visits and the bytes of all functions, which no line shows, are left out.
abbrev pub report_in : (bytes t s rs open_marks : List ℕ) → FunctionHandle → (at : ℕ) → (required : Bool) → Report
report_in bytes t s rs open_marks f at required =
    record {
      required = required;
      context = context_at (read s rs) at;
      exprs = records_in t exprs_slot f (read s rs);
      marks = slice open_marks (start_of (module_of bytes t) f) (stretch (module_of bytes t) f);
      visits = 0;
      bytes = [];
    }

unfoldable pub text_in : (bytes t s rs open_marks : List ℕ) → FunctionHandle → (at : ℕ) → (required : Bool) → List ℕ
text_in bytes t s rs open_marks f at required = report_text (module_of bytes t) f (report_in bytes t s rs open_marks f at required)

-- The most bytes that a text has. (16 allows half of these pieces; but a body without statements has no visit, and leaves the asked context as it is.)
abbrev pub max_text : ℕ
max_text = 13 + 38 * max_pieces + 22 * max_statements + 4 * (2 * max_statements + max_expressions)

-- memory has a report on f
pub record Reporting (bytes t : List ℕ) (places : MarkPlaces) (s rs open_marks : List ℕ) (f : FunctionHandle) (at : ℕ) : Type 0 where
  pub marked : Marked bytes t places open_marks f
  pub memory : Memory s rs
  pub high : at + 4 ≤ length rs
  pub context : FineContext (module_of bytes t) f (context_at (read s rs) at)
  pub exprs : FineRecords (module_of bytes t) f (records_in t exprs_slot f (read s rs))
  pub few : pieces (context_at (read s rs) at) + record_pieces (records_in t exprs_slot f (read s rs)) ≤ 2 * max_pieces

-- what the lines of that report are written from
pub record ReportingIn (bytes t firsts s rs open_marks : List ℕ) (f : FunctionHandle) (at : ℕ) : Type 0 where
  pub marked : MarkedIn bytes t firsts open_marks f
  pub memory : Memory s rs
  pub high : at + 4 ≤ length rs
  pub context : FineContext (module_of bytes t) f (context_at (read s rs) at)
  pub exprs : FineRecords (module_of bytes t) f (records_in t exprs_slot f (read s rs))
  pub few : pieces (context_at (read s rs) at) + record_pieces (records_in t exprs_slot f (read s rs)) ≤ 2 * max_pieces
