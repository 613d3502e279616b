-- What a request and a context ask together, as code answers it.
use Rattle.std.specs.Prelude.{ℕ, ◌+◌, ◌*◌, ◌<◌, ◌≤◌, ◌≡◌, false, cond, eqb, List, length, Option as Maybe, Result, Ok, Err}
use Rattle.std.proofs.Math.Option.{Option, some}
use Rattle.field.specs.Limits.{absent, min_report}
use Rattle.field.specs.Refusal.{number}
use Rattle.field.specs.declared.refusal.Refusal.{Refusal}
use Rattle.part.specs.PartReq.{is_all, entries}
use Rattle.part.specs.StoreLimits.{cell_words, store_words, table_words}
use Rattle.part.specs.Store.{top, part, Good}
use Rattle.module.specs.Module.{Module}
use Rattle.context.specs.RequiredContext.{RequiredContext}
use Rattle.request.specs.Request.{Request, asking, request_of, judge}
use Rattle.request.specs.Context.{context_of}
use Rattle.request.specs.Answers.{optional, Held, request_answer}
use Rattle.request.specs.declared.requests.Request.{Request as Read}
use Rattle.context_bytes.specs.Checked.{without_function}
use Rattle.clearance.specs.IsNeed.{AscendingRequest}
use Rattle.pass.specs.Pass.{work_bound}
use Rattle.hold.specs.Hold.{slack}
use Rattle.checking.specs.Check.{unread, value_of, on_buffer, meaning_by}
use Rattle.rounds.specs.Settling.{asked_by}
use Rattle.verdict.specs.declared.heard.Heard.{Heard}

-- words for the store of a check, of any contents
pub record Store (s : List ℕ) : Type 0 where
  pub long : cell_words * (3 + (work_bound + slack)) + table_words ≤ length s
  pub fits : length s ≤ store_words

-- the pieces of an accepted request, of which a cell was made for every four bytes at most
abbrev pub Pieces : (s : List ℕ) → (long : ℕ) → Result Read Refusal → Type 0
Pieces s long (Err e) = Unit {0}
Pieces s long (Ok q) = Held s q.retval × (q.globals < top s) × (4 * top s ≤ 12 + long) × (long ≤ 4 + absent)

-- the request is read into the store s, with a report that has room
pub record Loaded (functions globals : ℕ) (request s : List ℕ) (a : Result Read Refusal) : Type 0 where
  pub good : Good s
  pub is : request_answer s a ≡ judge functions globals min_report (request_of request)
  pub pieces : Pieces s (length request) a

-- the piece r is what is asked of the value, in every store
pub record ValuePiece (retval : Maybe ℕ) (r : ℕ) : Type 0 where
  pub there : (s : List ℕ) → 3 ≤ top s → Held s retval → r < top s
  pub is : (s : List ℕ) → part s r ≡ value_of (optional s retval)

-- the number that refuses a request and a context, where n refuses the request: of what is not there, 12 of the context comes first
unfoldable pub refused_first : ℕ → Option RequiredContext → ℕ
refused_first n c = cond (eqb n 11) (without_function c) n

-- the request that pieces of s mean: where nothing is asked of the value, none of it is
abbrev pub asks_by : (s : List ℕ) → (f g v : ℕ) → Request
asks_by s f g v = asking f (some (part s v)) (part s g)

-- what the rounds want of the pieces g and v of s, which ask of the function f
pub record Stored (m : Module) (s : List ℕ) (f g v : ℕ) : Type 0 where
  pub there : f < length m.functions
  pub good : Good s
  pub pieces : (g < top s) × (v < top s)
  pub slim : top s + (1 + entries (part s g) + entries (part s v)) ≤ 3 + work_bound
  pub listed : is_all (part s g) ≡ false
  pub ascends : AscendingRequest (asked_by s g v)

-- the context is accepted, and what is asked is what the pieces mean
pub record Accepted (m : Module) (request context s : List ℕ) (f g v : ℕ) : Type 0 where
  pub stored : Stored m s f g v
  pub given : RequiredContext
  pub given_is : context_of context ≡ some given
  pub is : (report : List ℕ) → meaning_by m report (request_of request) (context_of context) ≡ on_buffer m report (asks_by s f g v) given

abbrev pub HearsBy : Module → (request context s : List ℕ) → Result Heard Refusal → Type 0
HearsBy m request context s (Err e) = (report : List ℕ) → meaning_by m report (request_of request) (context_of context) ≡ unread (number e)
HearsBy m request context s (Ok h) = Accepted m request context s h.function.0 h.asked.globals h.asked.value

pub record Hears (m : Module) (request context s : List ℕ) (a : Result Heard Refusal) : Type 0 where
  pub by : HearsBy m request context s a
