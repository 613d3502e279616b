-- What the code answers of a function's outputs: by its result, the returned value's entry as a piece.
use Rattle.std.specs.Prelude.{ℕ, ◌+◌, ◌*◌, ◌<◌, ◌≤◌, ◌≡◌, Bool, cond, ◌||◌, ltb, List, length, ⊤, Result, Ok, Err}
use Rattle.std.proofs.Math.Option.{Option, some, none as nothing}
use Rattle.field.specs.Limits.{max_members, max_pieces}
use Rattle.field.specs.Refusal.{number}
use Rattle.field.specs.declared.refusal.Refusal.{Refusal}
use Rattle.field.specs.declared.refusal.Refusal.TheVariants.{PartLimit, PiecesLimit}
use Rattle.part.specs.PartReq.{PartReq, none, entries}
use Rattle.part.specs.Store.{top, part, Kept}
use Rattle.module.specs.Module.{FunctionResult, Function}
use Rattle.context.specs.RequiredContext.{RequiredContext}
use Rattle.bindings.specs.Rows.{BindingFits}
use Rattle.bindings.specs.ContextBindings.{Answer, refused, accepted}

-- a result whose binding is one that a file may have
abbrev pub BoundResult : Option FunctionResult → Type 0
BoundResult nothing = Unit {0}
BoundResult (some r) = BindingFits r.binding

-- the cells that a table of these pieces takes, and the returned value's entry
abbrev pub output_cells : List ℕ → ℕ
output_cells parts = max_members * length parts + 1

-- the context of a request
abbrev pub request_context : (globals retval : PartReq) → RequiredContext
request_context globals retval = record { globals = globals; locals = none; args = none; retval = retval }

-- what refuses a request, by whether what is new or the request passes a limit of parts, and by the request's entries
unfoldable pub within_limits : (new-over over : Bool) (entries : ℕ) → Result ⊤ Refusal
within_limits new-over over entries = cond (new-over || over) (Err PartLimit) (cond (ltb max_pieces entries) (Err PiecesLimit) (Ok tt))

-- what the code answers, of a request with these globals
abbrev pub asking_of : List ℕ → PartReq → Result ℕ Refusal → Answer RequiredContext
asking_of t globals (Err e) = refused (number e)
asking_of t globals (Ok n) = accepted (request_context globals (part t n))

-- the piece is there, and the request has no more entries than 16 allows
abbrev pub AskingHeld : List ℕ → PartReq → Result ℕ Refusal → Type 0
AskingHeld t globals (Err e) = Unit {0}
AskingHeld t globals (Ok n) = (n < top t) × (entries globals + entries (part t n) ≤ max_pieces)

-- from s, t was left, and of a function with this result the code says the answer
pub record Asked (s t : List ℕ) (declared : Option FunctionResult) (globals : PartReq) (answer : Function → Answer RequiredContext) (a : Result ℕ Refusal) : Type 0 where
  pub kept : Kept s t
  pub held : AskingHeld t globals a
  pub is : (f : Function) → f.result ≡ declared → asking_of t globals a ≡ answer f
