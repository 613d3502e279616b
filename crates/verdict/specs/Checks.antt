-- What the check of an asked function is given, and what it answers.
use Rattle.std.specs.Prelude.{ℕ, ◌+◌, ◌*◌, ◌≤◌, ◌≡◌, Bool, List, length}
use Rattle.std.proofs.Math.Option.{some}
use Rattle.field.specs.Limits.{max_types, max_expressions, max_statements}
use Rattle.module.specs.Module.{Module}
use Rattle.module.specs.Tables.{max_items, module_of}
use Rattle.context.specs.Types.{type_words}
use Rattle.context.specs.RequiredContext.{RequiredContext}
use Rattle.request.specs.Context.{context_of}
use Rattle.access.specs.Laid.{WasRead}
use Rattle.clearance.specs.Judged.{blamed_expression, blamed_statement}
use Rattle.clearance.specs.Verdict.{Answer, body}
use Rattle.pass.specs.Checked.{judge_by}
use Rattle.judge.specs.Given.{scope_at}
use Rattle.standing.specs.Slots.{stack_slot}
use Rattle.checking.specs.Check.{on_buffer, answer_to}
use Rattle.rounds.specs.Settling.{asked_by, reported}
use Rattle.verdict.specs.Heard.{Store, asks_by, Stored}
use Rattle.verdict.specs.Tables.{Sized}

-- the arrays that are worked in, of any contents
pub record Working (rows alike : List ℕ) (held paths : List Bool) (firsts s rs path : List ℕ) : Type 0 where
  pub rows_long : type_words * max_types ≤ length rows
  pub alike_long : max_types ≤ length alike
  pub held_long : max_types ≤ length held
  pub paths_long : max_expressions ≤ length paths
  pub firsts_long : max_statements ≤ length firsts
  pub store : Store s
  pub slots_long : stack_slot + 1 + (3 * max_items + 12) ≤ length rs
  pub path_long : max_expressions + 2 ≤ length path

-- what is asked stands in the store
pub record Asked (bytes t : List ℕ) (f : ℕ) (rows alike : List ℕ) (held paths : List Bool) (firsts s rs path : List ℕ) (g v : ℕ) : Type 0 where
  pub was_read : WasRead bytes t
  pub working : Working rows alike held paths firsts s rs path
  pub stored : Stored (module_of bytes t) s f g v

-- the tables have as many words as are filled
pub record Marked (bytes t : List ℕ) (f : ℕ) (types alike : List ℕ) (held paths : List Bool) (firsts s rs path : List ℕ) (g v : ℕ) : Type 0 where
  pub was_read : WasRead bytes t
  pub sized : Sized bytes t f types alike held paths
  pub firsts_long : max_statements ≤ length firsts
  pub store : Store s
  pub slots_long : stack_slot + 1 + (3 * max_items + 12) ≤ length rs
  pub path_long : max_expressions + 2 ≤ length path
  pub stored : Stored (module_of bytes t) s f g v

-- a is what is answered of marks with the function's shape, of whatever context the bytes mean
pub record MarksChecked (bytes t : List ℕ) (f : ℕ) (s : List ℕ) (g v : ℕ) (marks context : List ℕ) (a : Answer) : Type 0 where
  pub is : (c : RequiredContext) → context_of context ≡ some c →
      a ≡ judge_by (scope_at bytes t f) (asked_by s g v) (reported marks c) (blamed_expression (scope_at bytes t f)) (blamed_statement (scope_at bytes t f) (body (scope_at bytes t f) (reported marks c)))

-- a is what is answered of a report buffer
pub record ReportChecked (m : Module) (s : List ℕ) (f g v : ℕ) (report context : List ℕ) (a : Answer) : Type 0 where
  pub is : (c : RequiredContext) → context_of context ≡ some c → a ≡ answer_to (on_buffer m report (asks_by s f g v) c)
