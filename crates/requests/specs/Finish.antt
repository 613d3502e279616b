-- How a request ends, in memory: what is asked of the walk that has ended and of the lent buffers, and what is heard and left.
use Rattle.std.specs.Prelude.{◌≡◌, ⊤, Bool, List, ℕ, ◌<◌, ◌≤◌, length, Result, Ok, Err}
use Rattle.field.specs.Limits.{max_functions, min_report, max_pieces}
use Rattle.field.specs.Refusal.{number}
use Rattle.field.specs.declared.refusal.Refusal.{Refusal}
use Rattle.field.specs.declared.refusal.Refusal.TheVariants.{PiecesLimit}
use Rattle.module.specs.Module.{FunctionHandle}
use Rattle.module.specs.Tables.{module_of}
use Rattle.access.specs.File.{File}
use Rattle.request.specs.Request.{Request}
use Rattle.walk.specs.State.{nowhere as no_place, Out}
use Rattle.walk.specs.Function.{add_function}
use Rattle.context.specs.RequiredContext.{return_entry}
use Rattle.walk.specs.Requests.{Pruner, begun, request}
use Rattle.marks.specs.Places.{places_of}
use Rattle.marks.specs.declared.totals.MarkTotals.{MarkTotals}
use Rattle.state.specs.State.{place_of}
use Rattle.state.specs.declared.answer.Answer.{Answer}
use Rattle.state.specs.declared.answer.Halt.{Halt}
use Rattle.block.specs.Functions.{FunctionEnded}
use Rattle.pruner.specs.Form.{min_pruner}
use Rattle.requests.specs.Answer.{min_answer}
use Rattle.requests.specs.Serve.{Reply, visited, refused_at, finish}

-- 16 refuses n pieces, or allows them
abbrev pub TotalsChecked : ℕ → Result ⊤ Refusal → Type 0
TotalsChecked n (Err e) = (e ≡ PiecesLimit) × (max_pieces < n)
TotalsChecked n (Ok u) = n ≤ max_pieces

-- the reply that the code gives
abbrev pub reply_of : Result ℕ Halt → Reply
reply_of (Ok n) = visited n
reply_of (Err h) = refused_at (number h.refusal) (place_of h.place)

-- the walk of f has ended, and the buffers are long enough
pub record Finishing (bytes t starts s rs open_marks : List ℕ) (totals : MarkTotals) (f : FunctionHandle) (base : ℕ) (required : Bool) (visits sum : ℕ) (pruner report answer : List ℕ) : Type 0 where
  pub types : List ℕ
  pub firsts : List ℕ
  pub cells_before : List ℕ
  pub slots_before : List ℕ
  pub open_before : List ℕ
  pub totals_before : MarkTotals
  pub total : Out Bool
  pub ended : FunctionEnded bytes t types (places_of starts firsts) cells_before slots_before open_before totals_before f base 0 total visits sum required s rs open_marks totals
  pub pruner_long : min_pruner ≤ length pruner
  pub report_long : min_report ≤ length report
  pub answer_long : min_answer ≤ length answer
  pub flags_long : max_functions ≤ length totals.flags
  pub totals_long : min_report ≤ length totals.marks

abbrev pub FinishingOf : File → (starts s rs open_marks : List ℕ) → MarkTotals → FunctionHandle → (base : ℕ) → Answer → (pruner report answer : List ℕ) → Type 0
FinishingOf file starts s rs open_marks totals f base a pruner report answer = Finishing file.bytes file.t starts s rs open_marks totals f base a.required a.tally.visits a.tally.sum pruner report answer

-- Where that walk was the one of a request, the reply and the buffers are the definition's.
pub record Finished (bytes t starts s rs open_marks : List ℕ) (totals : MarkTotals) (f : FunctionHandle) (base : ℕ) (required : Bool) (visits sum : ℕ) (pruner report answer : List ℕ) (r : Result ℕ Halt)
    (pruner-after report-after answer-after : List ℕ) : Type 0 where
  pub by : (types firsts cells_before slots_before open_before : List ℕ) (totals_before : MarkTotals) (old : Pruner) (q : Request) → q.function ≡ f
      → FunctionEnded bytes t types (places_of starts firsts) cells_before slots_before open_before totals_before q.function base 0 (add_function (module_of bytes t) q.function no_place 0 q.globals (return_entry q.retval) (begun old)) visits sum required s rs open_marks totals
      → (reply_of r, record { pruner = pruner-after; report = report-after; answer = answer-after }) ≡ finish (record { pruner = pruner; report = report; answer = answer }) (request (module_of bytes t) old q)

abbrev pub FinishedOf : File → (starts s rs open_marks : List ℕ) → MarkTotals → FunctionHandle → (base : ℕ) → Answer → (pruner report answer : List ℕ) → Result ℕ Halt → (pruner-after report-after answer-after : List ℕ) → Type 0
FinishedOf file starts s rs open_marks totals f base a pruner report answer r pruner-after report-after answer-after = Finished file.bytes file.t starts s rs open_marks totals f base a.required a.tally.visits a.tally.sum pruner report answer r pruner-after report-after answer-after
