-- What a request answers beside marks and totals, as a record AN, a form of our own: the mark, a 32-bit length, and a body of 16-bit fields: whether the function is required, the
-- visits in two fields, the input context in the form of a context's record, and for each expression its record: a part, or code 3.
use Rattle.std.specs.Prelude.{ℕ, ◌+◌, ◌*◌, ◌/◌, ◌%◌, ◌≤◌, Bool, List, [], ◌∷◌, ◌++◌, length}
use Rattle.context.specs.RequiredContext.{RequiredContext}
use Rattle.request.specs.Fields.{bytes_of}
use Rattle.request.specs.Context.{write_context_body}
use Rattle.walk.specs.State.{Records}
use Rattle.walk.specs.StatementReq.{mark}
use Rattle.part.specs.Store.{top, Good, Below}
use Rattle.module.specs.Module.{FunctionHandle}
use Rattle.module.specs.Tables.{row_at, expressions_from}
use Rattle.memory.specs.Layout.{exprs_slot}
use Rattle.memory.specs.Memory.{read, context_at}
use Rattle.state.specs.State.{records_in}
use Rattle.pruner.specs.Form.{write_records}

-- the least buffer: every answer fits it
abbrev pub min_answer : ℕ
min_answer = 327680

unfoldable pub answer_body : (required : Bool) (visits : ℕ) → RequiredContext → Records → List ℕ
answer_body required visits context exprs =
    (mark required ∷ (visits % 65536 ∷ (visits / 65536 ∷ []))) ++ (write_context_body context ++ write_records exprs)

-- AN is 65, 78
unfoldable pub write_answer : (required : Bool) (visits : ℕ) → RequiredContext → Records → List ℕ
write_answer required visits context exprs =
    let body = answer_body required visits context exprs in
    let long = 2 * length body in
    65 ∷ (78 ∷ bytes_of (long % 65536 ∷ (long / 65536 ∷ body)))

-- what an answer is written from: the context in the slots from `at` on, and the records of f, are there
pub record Answering (t s rs : List ℕ) (f : FunctionHandle) (at : ℕ) : Type 0 where
  pub good : Good s
  pub below : Below rs (top s)
  pub context_there : at + 4 ≤ length rs
  pub records_there : exprs_slot + expressions_from (row_at t f) + (row_at t f).expressions ≤ length rs

-- that answer
abbrev pub answer_in : (t s rs : List ℕ) → FunctionHandle → (at : ℕ) → (required : Bool) → (visits : ℕ) → List ℕ
answer_in t s rs f at required visits = write_answer required visits (context_at (read s rs) at) (records_in t exprs_slot f (read s rs))
