-- What the walk of an input's request comes to, and what stands in memory then: a text, or a report that has it.
use Rattle.std.specs.Prelude.{◌≡◌, Bool, List, ◌++◌, ℕ, ◌+◌, Result, Ok, Err}
use Rattle.field.specs.Limits.{min_report}
use Rattle.field.specs.Refusal.{number}
use Rattle.field.specs.declared.refusal.Refusal.{Refusal}
use Rattle.module.specs.Tables.{module_of}
use Rattle.request.specs.Fields.{accepted}
use Rattle.request.specs.Request.{Request, read_request}
use Rattle.walk.specs.Requests.{fresh, request}
use Rattle.memory.specs.Layout.{stack_slot}
use Rattle.marks.specs.declared.places.MarkPlaces.{MarkPlaces}
use Rattle.marks.specs.declared.totals.MarkTotals.{MarkTotals}
use Rattle.pruner.specs.Form.{pruner_pieces}
use Rattle.requests.specs.Loaded.{Loaded}
use Rattle.lines.specs.Text.{refused_text}
use Rattle.lines.specs.Reported.{Reporting, ReportingIn, report_in, text_in}
use Rattle.checking.specs.Line.{check_line}
use Rattle.report_text.specs.Input.{check_of, answer_text}
use Rattle.report.specs.declared.outcome.Reported.{Reported}
use Rattle.block.specs.declared.world.World.{World}
use Rattle.block.specs.declared.workspace.Workspace.{Workspace}

-- Memory has the report on the function f that the request asks for, its context behind the base. The text is the report's lines and that of its check.
pub record Shows (text bytes t asked-bytes : List ℕ) (places : MarkPlaces) (s rs open_marks : List ℕ) (f : ℕ) (required : Bool) : Type 0 where
  pub reporting : Reporting bytes t places s rs open_marks f (stack_slot + 4)
  pub q : Request
  pub asks : read_request (module_of bytes t) min_report asked-bytes ≡ accepted q
  pub function_is : q.function ≡ f
  pub is : text ≡ text_in bytes t s rs open_marks f (stack_slot + 4) required ++ check_line (check_of (module_of bytes t) q (report_in bytes t s rs open_marks f (stack_slot + 4) required))

-- the text is that, or the line of the refusal
abbrev pub TextBy : (text bytes t asked-bytes : List ℕ) (places : MarkPlaces) (s rs open_marks : List ℕ) → Result Reported Refusal → Type 0
TextBy text bytes t asked-bytes places s rs open_marks (Err e) = text ≡ refused_text (number e)
TextBy text bytes t asked-bytes places s rs open_marks (Ok a) = Shows text bytes t asked-bytes places s rs open_marks a.function.0 a.required

pub record TextIs (text bytes t asked-bytes : List ℕ) (places : MarkPlaces) (s rs open_marks : List ℕ) (r : Result Reported Refusal) : Type 0 where
  pub by : TextBy text bytes t asked-bytes places s rs open_marks r

-- what the text is written from: of where marks stand, the places of the function's statements
pub record ShowsIn (text bytes t asked-bytes firsts s rs open_marks : List ℕ) (f : ℕ) (required : Bool) : Type 0 where
  pub reporting : ReportingIn bytes t firsts s rs open_marks f (stack_slot + 4)
  pub q : Request
  pub asks : read_request (module_of bytes t) min_report asked-bytes ≡ accepted q
  pub function_is : q.function ≡ f
  pub is : text ≡ text_in bytes t s rs open_marks f (stack_slot + 4) required ++ check_line (check_of (module_of bytes t) q (report_in bytes t s rs open_marks f (stack_slot + 4) required))

-- the text is that, or the line of the refusal
abbrev pub TextByIn : (text bytes t asked-bytes firsts s rs open_marks : List ℕ) → Result Reported Refusal → Type 0
TextByIn text bytes t asked-bytes firsts s rs open_marks (Err e) = text ≡ refused_text (number e)
TextByIn text bytes t asked-bytes firsts s rs open_marks (Ok a) = ShowsIn text bytes t asked-bytes firsts s rs open_marks a.function.0 a.required

pub record TextIn (text bytes t asked-bytes firsts s rs open_marks : List ℕ) (r : Result Reported Refusal) : Type 0 where
  pub by : TextByIn text bytes t asked-bytes firsts s rs open_marks r

-- a request of a fresh pruner was loaded, and `sum` is what its totals count for
pub record Asked (bytes t types : List ℕ) (places : MarkPlaces) (s rs open_marks : List ℕ) (totals : MarkTotals) (f sum : ℕ) : Type 0 where
  pub q : Request
  pub function_is : q.function ≡ f
  pub sum_is : sum ≡ pruner_pieces (fresh (module_of bytes t))
  pub loaded : Loaded bytes t types places s rs open_marks totals q (fresh (module_of bytes t))

abbrev pub AskedOf : World → Workspace → ℕ → ℕ → Type 0
AskedOf w m f sum = Asked w.typed.now.file.now.bytes w.typed.now.file.now.t w.typed.now.types.now w.places.now m.parts.cells m.parts.slots m.open m.totals f sum

-- the text is that of whatever request was read and loaded
pub record Walked (bytes t types : List ℕ) (places : MarkPlaces) (s rs open_marks : List ℕ) (totals : MarkTotals) (f : ℕ) (u us open_after : List ℕ) (r : Result Reported Refusal) : Type 0 where
  pub by : (asked-bytes : List ℕ) (q : Request) → read_request (module_of bytes t) min_report asked-bytes ≡ accepted q → q.function ≡ f
      → Loaded bytes t types places s rs open_marks totals q (fresh (module_of bytes t))
      → TextIs (answer_text (module_of bytes t) q (request (module_of bytes t) (fresh (module_of bytes t)) q).0) bytes t asked-bytes places u us open_after r

abbrev pub WalkedOf : World → Workspace → ℕ → List ℕ → List ℕ → List ℕ → Result Reported Refusal → Type 0
WalkedOf w m f u us open_after r = Walked w.typed.now.file.now.bytes w.typed.now.file.now.t w.typed.now.types.now w.places.now m.parts.cells m.parts.slots m.open m.totals f u us open_after r
