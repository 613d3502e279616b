-- The check of the report that a walk has left in memory: what it finds, the record of the context, and the answer.
use Rattle.std.specs.Prelude.{ℕ, ◌+◌, ◌*◌, ◌≤◌, ◌≡◌, Bool, List, length, take}
use Rattle.field.specs.Limits.{max_pieces, min_report}
use Rattle.module.specs.Tables.{module_of}
use Rattle.context.specs.RequiredContext.{RequiredContext, pieces}
use Rattle.request.specs.Fields.{accepted}
use Rattle.request.specs.Request.{Request, read_request}
use Rattle.request.specs.Context.{write_context}
use Rattle.walk.specs.Proper.{FineContext}
use Rattle.memory.specs.Memory.{read, context_at, Memory}
use Rattle.access.specs.Laid.{WasRead}
use Rattle.lines.specs.Reported.{report_in}
use Rattle.clearance.specs.Verdict.{Answer}
use Rattle.checking.specs.Word.{said, check_word, Roomy}
use Rattle.checking.specs.declared.words.Verdict.{Verdict}
use Rattle.report_text.specs.Input.{check_of}

-- the most bytes of the line: `check unjudged expr ` and ten digits
abbrev pub max_line : ℕ
max_line = 31

-- The most bytes of a context's record. (16 allows half of these pieces; but a body without statements has no visit, and leaves the asked context as it is.)
abbrev pub max_record : ℕ
max_record = 14 + 12 * max_pieces

-- the first n bytes are the record of c
pub record Recorded (out : List ℕ) (n : ℕ) (c : RequiredContext) : Type 0 where
  pub inside : n ≤ length out
  pub is : take n out ≡ write_context c

-- memory has a report on the function that the request asks for, with its context in the four slots from k on
pub record Judging (bytes t s rs open_marks : List ℕ) (k : ℕ) (request : List ℕ) : Type 0 where
  pub was_read : WasRead bytes t
  pub q : Request
  pub asks : read_request (module_of bytes t) min_report request ≡ accepted q
  pub memory : Memory s rs
  pub high : k + 4 ≤ length rs
  pub context : FineContext (module_of bytes t) q.function (context_at (read s rs) k)
  pub few : pieces (context_at (read s rs) k) ≤ 2 * max_pieces
  pub long : min_report ≤ length open_marks

-- a number of an answer for which there is room
pub record Numbered (word : ℕ) : Type 0 where
  pub answer : Answer
  pub roomy : Roomy answer
  pub is : word ≡ check_word answer

-- the answer of the check of that report, required or not; there is room for it in a number
pub record Checks (bytes t s rs open_marks : List ℕ) (k : ℕ) (request : List ℕ) (v : Verdict) : Type 0 where
  pub roomy : Roomy (said v)
  pub is : (q : Request) → read_request (module_of bytes t) min_report request ≡ accepted q → (required : Bool)
      → said v ≡ check_of (module_of bytes t) q (report_in bytes t s rs open_marks q.function k required)
