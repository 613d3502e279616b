-- A request in code: the walk of the asked function from what was loaded, and the whole of it for a module that was read.
use Rattle.std.specs.Prelude.{◌≡◌, List, ℕ, ◌≤◌, length, Result}
use Rattle.field.specs.Limits.{min_report}
use Rattle.module.specs.Tables.{module_of}
use Rattle.request.specs.Request.{Request}
use Rattle.walk.specs.Requests.{Pruner, request}
use Rattle.marks.specs.declared.places.MarkPlaces.{MarkPlaces}
use Rattle.marks.specs.declared.totals.MarkTotals.{MarkTotals}
use Rattle.pruner.specs.Form.{min_pruner, pruner_pieces}
use Rattle.requests.specs.Answer.{min_answer}
use Rattle.requests.specs.Loaded.{Loaded}
use Rattle.requests.specs.Serve.{finish, serve_read}
use Rattle.requests.specs.Finish.{reply_of}
use Rattle.state.specs.declared.answer.Halt.{Halt}
use Rattle.block.specs.declared.world.World.{World}
use Rattle.block.specs.declared.workspace.Workspace.{Workspace}

-- a request was loaded, `sum` is what its totals count for, and the buffers are long enough
pub record Walking (bytes t types : List ℕ) (places : MarkPlaces) (s rs open_marks : List ℕ) (totals : MarkTotals) (f sum : ℕ) (pruner report answer : List ℕ) : Type 0 where
  pub q : Request
  pub old : Pruner
  pub function_is : q.function ≡ f
  pub sum_is : sum ≡ pruner_pieces old
  pub loaded : Loaded bytes t types places s rs open_marks totals q old
  pub pruner_long : min_pruner ≤ length pruner
  pub report_long : min_report ≤ length report
  pub answer_long : min_answer ≤ length answer

abbrev pub WalkingOf : World → Workspace → ℕ → ℕ → List ℕ → List ℕ → List ℕ → Type 0
WalkingOf w m f sum pruner report answer = Walking w.typed.now.file.now.bytes w.typed.now.file.now.t w.typed.now.types.now w.places.now m.parts.cells m.parts.slots m.open m.totals f sum pruner report answer

-- the reply and the buffers are those of whatever request was loaded
pub record Walked (bytes t types : List ℕ) (places : MarkPlaces) (s rs open_marks : List ℕ) (totals : MarkTotals) (f sum : ℕ) (pruner report answer : List ℕ) (r : Result ℕ Halt) (pruner-after report-after answer-after : List ℕ) : Type 0 where
  pub by : (q : Request) (old : Pruner) → q.function ≡ f → sum ≡ pruner_pieces old → Loaded bytes t types places s rs open_marks totals q old
      → (reply_of r, record { pruner = pruner-after; report = report-after; answer = answer-after }) ≡ finish (record { pruner = pruner; report = report; answer = answer }) (request (module_of bytes t) old q)

abbrev pub WalkedOf : World → Workspace → ℕ → ℕ → List ℕ → List ℕ → List ℕ → Result ℕ Halt → List ℕ → List ℕ → List ℕ → Type 0
WalkedOf w m f sum pruner report answer r pruner-after report-after answer-after = Walked w.typed.now.file.now.bytes w.typed.now.file.now.t w.typed.now.types.now w.places.now m.parts.cells m.parts.slots m.open m.totals f sum pruner report answer r pruner-after report-after answer-after

pub record Served (bytes t bytes-asked pruner report answer : List ℕ) (r : Result ℕ Halt) (pruner-after report-after answer-after : List ℕ) : Type 0 where
  pub is : (reply_of r, record { pruner = pruner-after; report = report-after; answer = answer-after }) ≡ serve_read (module_of bytes t) bytes-asked (record { pruner = pruner; report = report; answer = answer })

abbrev pub ServedOf : World → List ℕ → List ℕ → List ℕ → List ℕ → Result ℕ Halt → List ℕ → List ℕ → List ℕ → Type 0
ServedOf w asked pruner report answer r pruner-after report-after answer-after = Served w.typed.now.file.now.bytes w.typed.now.file.now.t asked pruner report answer r pruner-after report-after answer-after
