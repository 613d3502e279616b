-- What checking a report answers, from bytes. Refusals come in 01's order: of the module (1 to 5), of the request and the context (12, then 11), and then those of the clearance.
-- Nothing is written.
use Rattle.std.specs.Prelude.{ℕ, ◌+◌, Bool, cond, List, ltb, length}
use Rattle.std.proofs.Math.Option.{Option, some, none as nothing}
use Rattle.part.specs.PartReq.{PartReq, none}
use Rattle.module.specs.Module.{FunctionHandle, Module}
use Rattle.module.specs.File as file
use Rattle.context.specs.RequiredContext.{RequiredContext}
use Rattle.request.specs.Request.{request_of, known}
use Rattle.request.specs.Request as asks
use Rattle.request.specs.Context.{context_of, known_context}
use Rattle.walk.specs.Resolve.{function_at}
use Rattle.walk.specs.Marks.{stretch}
use Rattle.marks.specs.Places.{slice, start_of}
use Rattle.clearance.specs.Scope.{Scope}
use Rattle.clearance.specs.Verdict.{Request, Report, Answer, refused}
use Rattle.pass.specs.Checked.{checked}

-- what bytes mean, or 01's number
pub data Meaning : Type 0 where
  unread : ℕ → Meaning
  means : Scope → Request → Report → Meaning

-- the function f within its module
abbrev pub scope_of : Module → FunctionHandle → Scope
scope_of m f = record { program = m; function = function_at m f }

-- the part that is asked of the returned value, none where nothing is
unfoldable pub value_of : Option PartReq → PartReq
value_of nothing = none
value_of (some p) = p

abbrev pub asked_by : asks.Request → Request
asked_by q = record { globals = q.globals; value = value_of q.retval }

-- The marks are the function's stretch of the buffer that has those of all functions.
abbrev pub report_by : Module → FunctionHandle → (report : List ℕ) → RequiredContext → Report
report_by m f report c = record { marks = slice report (start_of m f) (stretch m f); globals = c.globals; args = c.args }

-- whether the buffer ends before the function's stretch does
unfoldable pub cut_short : Module → FunctionHandle → (report : List ℕ) → Bool
cut_short m f report = ltb (length report) (start_of m f + stretch m f)

-- 21, where the buffer ends too early, even for a function that has no marks; of other marks it is the clearance's first test
unfoldable pub on_buffer : Module → (report : List ℕ) → asks.Request → RequiredContext → Meaning
on_buffer m report q c =
    cond (cut_short m q.function report) (unread 21) (means (scope_of m q.function) (asked_by q) (report_by m q.function report c))

-- 11: no such function or global in the request, or no such global, argument or local of that function in the context
unfoldable pub meaning_of : Module → (report : List ℕ) → asks.Request → RequiredContext → Meaning
meaning_of m report q c =
    let f = function_at m q.function in
    cond (known (length m.functions) (length m.globals) q)
    (cond (known_context (length m.globals) (length f.arguments) (length f.locals) c)
    (on_buffer m report q c) (unread 11))
    (unread 11)

-- 12: a malformed request or context
unfoldable pub meaning_by : Module → (report : List ℕ) → Option asks.Request → Option RequiredContext → Meaning
meaning_by m report nothing c = unread 12
meaning_by m report (some q) nothing = unread 12
meaning_by m report (some q) (some c) = meaning_of m report q c

unfoldable pub on_module : file.Answer → (request report context : List ℕ) → Meaning
on_module (file.refused n) request report context = unread n
on_module (file.accepted m) request report context = meaning_by m report (request_of request) (context_of context)

-- of any bytes
unfoldable pub meaning : (file request report context : List ℕ) → Meaning
meaning s request report context = on_module (file.read_module s) request report context

unfoldable pub answer_to : Meaning → Answer
answer_to (unread n) = refused n
answer_to (means S R P) = checked S R P

-- The check.
unfoldable pub check : (file request report context : List ℕ) → Answer
check s request report context = answer_to (meaning s request report context)
