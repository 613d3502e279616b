-- How a request begins: the request and the totals that bytes mean, and what memory has of them.
use Rattle.std.specs.Prelude.{◌≡◌, ⊤, List, ℕ, ◌+◌, ◌*◌, ◌<◌, ◌≤◌, length, get_or, Result, Ok, Err}
use Rattle.field.specs.Field.{field_at}
use Rattle.field.specs.Limits.{absent, max_functions, max_pieces, min_report}
use Rattle.field.specs.Refusal.{number}
use Rattle.field.specs.declared.refusal.Refusal.{Refusal}
use Rattle.part.specs.PartReq.{none, entries}
use Rattle.part.specs.Store.{top, part, Room}
use Rattle.part.specs.StoreLimits.{store_words, entries_cap}
use Rattle.module.specs.Module.{Module}
use Rattle.module.specs.Tables.{module_of}
use Rattle.module.specs.declared.handles.FunctionHandle.{FunctionHandle as Handle}
use Rattle.access.specs.Laid.{WasRead}
use Rattle.context.specs.Types.{types_of}
use Rattle.context.specs.RequiredContext.{RequiredContext, pieces, return_entry}
use Rattle.request.specs.Fields as reading
use Rattle.request.specs.Request.{Request, read_request, judge, request_of}
use Rattle.request.specs.Answers.{optional, Held}
use Rattle.request.specs.declared.requests.Request as declared
use Rattle.walk.specs.Requests.{Pruner}
use Rattle.memory.specs.Layout.{globals_slot, stack_slot, slot_count, store_size, flat_count}
use Rattle.memory.specs.Memory.{read, context_at, with_context, Memory}
use Rattle.marks.specs.Places.{places_of, Places}
use Rattle.marks.specs.declared.totals.MarkTotals.{MarkTotals}
use Rattle.state.specs.State.{totals_sum}
use Rattle.pruner.specs.Form.{pruner_pieces, read_pruner}
use Rattle.requests.specs.Loaded.{Loaded}
use Rattle.requests.specs.declared.begin.Begun.{Begun}

-- 12, 11 and 18 of the request, then 19 of the totals
unfoldable pub with_totals : Request → reading.Answer Pruner → reading.Answer (Request × Pruner)
with_totals q (reading.refused n) = reading.refused n
with_totals q (reading.accepted pruner) = reading.accepted (q, pruner)

unfoldable pub after_request : Module → (pruner : List ℕ) → reading.Answer Request → reading.Answer (Request × Pruner)
after_request m pruner (reading.refused n) = reading.refused n
after_request m pruner (reading.accepted q) = with_totals q (read_pruner m pruner)

abbrev pub beginning : Module → (report : ℕ) → (bytes pruner : List ℕ) → reading.Answer (Request × Pruner)
beginning m report bytes pruner = after_request m pruner (read_request m report bytes)

-- the base context of a request's function
abbrev pub base_of : Request → RequiredContext
base_of q = record { globals = q.globals; locals = none; args = none; retval = return_entry q.retval }

-- the same of the pieces that were read
abbrev pub base_in : List ℕ → declared.Request → RequiredContext
base_in s q = record { globals = part s q.globals; locals = none; args = none; retval = return_entry (optional s q.retval) }

-- what the base context asks of the memory
pub record Basing (s rs : List ℕ) (q : declared.Request) : Type 0 where
  pub memory : Memory s rs
  pub slots_long : stack_slot + 4 ≤ length rs
  pub held : Held s q.retval
  pub globals : q.globals < top s
  pub roomy : Room s 1

pub record Based (s rs : List ℕ) (q : declared.Request) (t us : List ℕ) : Type 0 where
  pub memory : Memory t us
  pub reads : read t us ≡ with_context (read s rs) stack_slot (base_in s q)
  pub long : length us ≡ length rs
  pub cost : top t ≤ top s + 1

-- The request q stands in a memory that has nothing else.
pub record Standing (s rs : List ℕ) (q : Request) : Type 0 where
  pub memory : Memory s rs
  pub base_is : context_at (read s rs) stack_slot ≡ base_of q
  pub base_few : pieces (base_of q) ≤ 2 * max_pieces
  pub below : (k : ℕ) → globals_slot ≤ k → k < stack_slot → get_or (read s rs) k none ≡ none
  pub above : (k : ℕ) → stack_slot + 4 ≤ k → get_or (read s rs) k none ≡ none
  pub cost : top s ≤ 3 + 4 * flat_count + 2 * max_pieces + 2

-- A request that is longer than it says is none: 12. So what is read has no more bytes than a header and a body of so many fields.
abbrev pub LengthChecked : List ℕ → Result ⊤ Refusal → Type 0
LengthChecked s (Err e) = (number e ≡ 12) × (4 + field_at s 2 < length s)
LengthChecked s (Ok u) = (length s ≤ 4 + field_at s 2) × (length s ≤ 4 + absent)

pub record RequestStands (functions globals report : ℕ) (request s rs : List ℕ) (f : ℕ) : Type 0 where
  pub q : Request
  pub function_is : q.function ≡ f
  pub is : judge functions globals report (request_of request) ≡ reading.accepted q
  pub standing : Standing s rs q

abbrev pub RequestBy : (functions globals report : ℕ) → (request s rs : List ℕ) → Result Handle Refusal → Type 0
RequestBy functions globals report request s rs (Err e) = judge functions globals report (request_of request) ≡ reading.refused (number e)
RequestBy functions globals report request s rs (Ok f) = RequestStands functions globals report request s rs f.0

pub record RequestLoaded (functions globals report : ℕ) (request s rs : List ℕ) (r : Result Handle Refusal) : Type 0 where
  pub by : RequestBy functions globals report request s rs r

-- what the sum of totals asks of the memory
pub record Weighing (s rs : List ℕ) : Type 0 where
  pub memory : Memory s rs
  pub few : entries (get_or (read s rs) globals_slot none) + totals_sum (read s rs) ≤ entries_cap

-- tables of a module that was read, and arrays that are long enough
pub record Beginning (bytes t starts s rs open_marks : List ℕ) (totals : MarkTotals) : Type 0 where
  pub was_read : WasRead bytes t
  pub firsts : List ℕ
  pub placed : Places bytes t (places_of starts firsts)
  pub cells_long : store_size ≤ length s
  pub cells_fit : length s ≤ store_words
  pub slots_long : slot_count ≤ length rs
  pub open_long : min_report ≤ length open_marks
  pub flags_long : max_functions ≤ length totals.flags
  pub totals_long : min_report ≤ length totals.marks

-- Memory has the request and the totals, and marks are placed: with the types' table, and any of statements that is placed, the walk can begin.
pub record Ready (bytes t starts : List ℕ) (report : ℕ) (request pruner s rs open_marks : List ℕ) (totals : MarkTotals) (f sum : ℕ) : Type 0 where
  pub q : Request
  pub old : Pruner
  pub is : beginning (module_of bytes t) report request pruner ≡ reading.accepted (q, old)
  pub function_is : q.function ≡ f
  pub sum_is : sum ≡ pruner_pieces old
  pub firsts : List ℕ
  pub placed : Places bytes t (places_of starts firsts)
  pub loaded : (types firsts : List ℕ) → types_of types ≡ (module_of bytes t).types → Places bytes t (places_of starts firsts) → Loaded bytes t types (places_of starts firsts) s rs open_marks totals q old

abbrev pub BeginsBy : (bytes t starts : List ℕ) → (report : ℕ) → (request pruner s rs open_marks : List ℕ) (totals : MarkTotals) → Result Begun Refusal → Type 0
BeginsBy bytes t starts report request pruner s rs open_marks totals (Err e) = beginning (module_of bytes t) report request pruner ≡ reading.refused (number e)
BeginsBy bytes t starts report request pruner s rs open_marks totals (Ok b) = Ready bytes t starts report request pruner s rs open_marks totals b.function.0 b.sum

pub record Begins (bytes t starts : List ℕ) (report : ℕ) (request pruner s rs open_marks : List ℕ) (totals : MarkTotals) (r : Result Begun Refusal) : Type 0 where
  pub by : BeginsBy bytes t starts report request pruner s rs open_marks totals r
