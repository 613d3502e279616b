-- What stands in memory between two rounds, and what it takes to begin, one round, the copy of its table and its answer come to.
use Rattle.std.specs.Prelude.{ℕ, ◌+◌, ◌*◌, ◌<◌, ◌≤◌, ◌≡◌, Bool, false, List, [], length, get_or}
use Rattle.std.proofs.Math.Option.{some}
use Rattle.part.specs.PartReq.{is_all, entries}
use Rattle.part.specs.StoreLimits.{cell_words, table_words}
use Rattle.part.specs.Store.{top, part, Good}
use Rattle.module.specs.Tables.{function_of}
use Rattle.context.specs.RequiredContext.{RequiredContext}
use Rattle.request.specs.Context.{context_of}
use Rattle.clearance.specs.Scope.{Scope}
use Rattle.clearance.specs.Tree.{Tree}
use Rattle.clearance.specs.Needs.{next, Table, reentry}
use Rattle.clearance.specs.Verdict.{Request, Answer, setting, ending}
use Rattle.clearance.specs.IsNeed.{AscendingRequest}
use Rattle.pass.specs.Pass.{work_bound, Carried, on}
use Rattle.pass.specs.Checked.{asked_of, pass_once, answer_of}
use Rattle.judge.specs.Given.{scope_at}
use Rattle.hold.specs.Hold.{slack, in_slot}
use Rattle.standing.specs.Slots.{table_size, asked_slot, end_slot, stack_slot, Ready}
use Rattle.standing.specs.Standing.{Carries, Came, Keeps}
use Rattle.standing.specs.World.{World}
use Rattle.standing.specs.Passing.{Passing}
use Rattle.checking.specs.Stretch.{Firsts}
use Rattle.rounds.specs.Settling.{Settled, asked_by, reported}
use Rattle.backward.specs.declared.marked.MarkedSubject.{MarkedSubject}

-- Both tables' slots mean the table o, and the needs at hand are those at the function's end.
pub record Between (S : Scope) (R : Request) (o : Table) (s rs : List ℕ) : Type 0 where
  pub ready : Ready S s rs (stack_slot + 1)
  pub value : in_slot s rs asked_slot ≡ asked_of (setting S R)
  pub end : in_slot s rs end_slot ≡ ending S R next
  pub hand : in_slot s rs stack_slot ≡ ending S R next
  pub old : (j : ℕ) → j < table_size → in_slot s rs j ≡ reentry o j
  pub new : (j : ℕ) → j < table_size → in_slot s rs (table_size + j) ≡ reentry o j
  pub short : length o ≤ table_size

-- the slots of both tables have none, and the others what they had
pub record Cleared (rs us : List ℕ) : Type 0 where
  pub long : length us ≡ length rs
  pub none : (j : ℕ) → j < asked_slot → get_or us j 0 ≡ 2
  pub others : (j : ℕ) → asked_slot ≤ j → get_or us j 0 ≡ get_or rs j 0

-- what is asked stands in a store with room for it once more, trimmed
pub record Asked (s rs : List ℕ) (g v : ℕ) : Type 0 where
  pub good : Good s
  pub there : (g < top s) × (v < top s)
  pub long : cell_words * (3 + (work_bound + slack)) + table_words ≤ length s
  pub slim : top s + (1 + entries (part s g) + entries (part s v)) ≤ 3 + work_bound
  pub slots : stack_slot < length rs
  pub listed : is_all (part s g) ≡ false
  pub ascends : AscendingRequest (asked_by s g v)

-- as the first round finds it: the table has no needs yet
pub record Begins (S : Scope) (R : Request) (s rs t us : List ℕ) : Type 0 where
  pub cells : length t ≡ length s
  pub slots : length us ≡ length rs
  pub between : Between S R [] t us

-- what a round is given
pub record Rounding (bytes t : List ℕ) (f : ℕ) (types alike : List ℕ) (paths : List Bool) (firsts s rs path : List ℕ) : Type 0 where
  pub world : World bytes t f types alike paths
  pub begins : Firsts (function_of bytes t f).statements firsts
  pub ready : Ready (scope_at bytes t f) s rs (stack_slot + 1)
  pub slots : stack_slot + 1 + (3 * length (function_of bytes t f).blocks + 12) ≤ length rs
  pub path_long : length (function_of bytes t f).expressions + 2 ≤ length path

abbrev pub RoundingOf : MarkedSubject → List ℕ → List ℕ → List ℕ → Type 0
RoundingOf m s rs path = Rounding m.subject.now.file.now.bytes m.subject.now.file.now.t m.subject.now.f.0 m.subject.now.types.now m.subject.now.alike.now m.subject.now.paths.now m.firsts.now s rs path

-- and what it comes to, whatever was asked and whatever the table was: one pass over the body a
pub record Rounded (S : Scope) (a : Tree) (s rs t us before after : List ℕ) (q : Passing) : Type 0 where
  pub cells : length t ≡ length s
  pub slots : length us ≡ length rs
  pub long : length after ≡ length before
  pub ready : q.full ≡ false → Ready S t us (stack_slot + 1)
  pub kept : q.full ≡ false → Keeps s rs t us (stack_slot + 1)
  pub is : (R : Request) (o : Table) → Between S R o s rs → Came (pass_once (setting S R) a (ending S R) o) t us (stack_slot + 1) q

-- the old table's slots have what the new one's have, and the last slot what stands at the end
pub record Renewed (rs us : List ℕ) : Type 0 where
  pub long : length us ≡ length rs
  pub old : (j : ℕ) → j < table_size → get_or us j 0 ≡ get_or rs (table_size + j) 0
  pub hand : get_or us stack_slot 0 ≡ get_or rs end_slot 0
  pub others : (j : ℕ) → table_size ≤ j → j < stack_slot → get_or us j 0 ≡ get_or rs j 0

-- a is the answer where the last pass carried what q says and left the need n
pub record Answers (s : List ℕ) (n : ℕ) (q : Passing) (context : List ℕ) (a : Answer) : Type 0 where
  pub is : (c : RequiredContext) (marks : List ℕ) (d : Carried) → context_of context ≡ some c → Carries q d →
      a ≡ answer_of (reported marks c) (some (on d (part s n)))

-- a is the answer, whatever was asked
pub record Settles (S : Scope) (marks context s rs : List ℕ) (a : Answer) : Type 0 where
  pub is : (R : Request) → Between S R [] s rs → Settled S R marks context a
