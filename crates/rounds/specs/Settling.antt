-- What the rounds of a check are given, and what they answer.
use Rattle.std.specs.Prelude.{ℕ, ◌+◌, ◌*◌, ◌<◌, ◌≤◌, ◌≡◌, Bool, false, List, length}
use Rattle.std.proofs.Math.Option.{some}
use Rattle.part.specs.PartReq.{is_all, entries}
use Rattle.part.specs.StoreLimits.{cell_words, table_words}
use Rattle.part.specs.Store.{top, part, Good}
use Rattle.module.specs.Tables.{function_of}
use Rattle.context.specs.RequiredContext.{RequiredContext}
use Rattle.request.specs.Context.{context_of}
use Rattle.clearance.specs.Scope.{Scope}
use Rattle.clearance.specs.Verdict.{Request, Report, Answer}
use Rattle.clearance.specs.IsNeed.{AscendingRequest}
use Rattle.pass.specs.Pass.{work_bound}
use Rattle.pass.specs.Checked.{last_pass, answer_of}
use Rattle.hold.specs.Hold.{slack}
use Rattle.standing.specs.Slots.{stack_slot}
use Rattle.standing.specs.World.{World}
use Rattle.checking.specs.Stretch.{Firsts}
use Rattle.backward.specs.declared.marked.MarkedSubject.{MarkedSubject}
use Rattle.rounds.specs.declared.pieces.AskedPieces.{AskedPieces}

-- what the pieces g and v ask, of globals and of the returned value
abbrev pub asked_by : (s : List ℕ) → (g v : ℕ) → Request
asked_by s g v = record { globals = part s g; value = part s v }

-- a report with the globals and arguments of a context
abbrev pub reported : (marks : List ℕ) → RequiredContext → Report
reported marks c = record { marks = marks; globals = c.globals; args = c.args }

-- The request's parts are pieces of a store that has room for them once more, trimmed, and for the bound.
pub record Settling (bytes t : List ℕ) (f : ℕ) (types alike : List ℕ) (paths : List Bool) (firsts s rs path : List ℕ) (g v : ℕ) : Type 0 where
  pub world : World bytes t f types alike paths
  pub begins : Firsts (function_of bytes t f).statements firsts
  pub good : Good s
  pub there : (g < top s) × (v < top s)
  pub long : cell_words * (3 + (work_bound + slack)) + table_words ≤ length s
  pub slim : top s + (1 + entries (part s g) + entries (part s v)) ≤ 3 + work_bound
  pub slots : stack_slot + 1 + (3 * length (function_of bytes t f).blocks + 12) ≤ length rs
  pub path_long : length (function_of bytes t f).expressions + 2 ≤ length path
  pub listed : is_all (part s g) ≡ false
  pub ascends : AscendingRequest (asked_by s g v)

abbrev pub SettlingOf : MarkedSubject → List ℕ → List ℕ → List ℕ → AskedPieces → Type 0
SettlingOf m s rs path a = Settling m.subject.now.file.now.bytes m.subject.now.file.now.t m.subject.now.f.0 m.subject.now.types.now m.subject.now.alike.now m.subject.now.paths.now m.firsts.now s rs path a.globals a.value

-- a is the answer, of whatever context the bytes mean
pub record Settled (S : Scope) (R : Request) (marks context : List ℕ) (a : Answer) : Type 0 where
  pub is : (c : RequiredContext) → context_of context ≡ some c → a ≡ answer_of (reported marks c) (last_pass S R (reported marks c))
