-- A new total of a function: its context and records in the slots of the totals, and its marks.
use Rattle.std.specs.Prelude.{◌≡◌, Bool, List, ℕ, ◌+◌, ◌*◌, ◌<◌, ◌≤◌, length, get_or}
use Rattle.part.specs.PartReq.{PartReq, none}
use Rattle.module.specs.Module.{FunctionHandle}
use Rattle.module.specs.Tables.{row_at, expressions_from, items_to, max_items}
use Rattle.field.specs.Limits.{max_functions}
use Rattle.part.specs.Store.{top}
use Rattle.part.specs.StoreLimits.{entries_cap}
use Rattle.context.specs.RequiredContext.{RequiredContext, merge_context, over_context, pieces}
use Rattle.walk.specs.State.{Records, record_pieces}
use Rattle.walk.specs.Function.{extend}
use Rattle.memory.specs.Layout.{exprs_slot, totals_slot, functions_slot, stack_slot}
use Rattle.memory.specs.Memory.{read, context_at, Memory}
use Rattle.state.specs.State.{records_in}

-- the slots have c and es as the total of f, and no other slot means anything else than before
pub record NewTotal (t : List ℕ) (f : FunctionHandle) (ps qs : List PartReq) (c : RequiredContext) (es : Records) : Type 0 where
  pub long : length qs ≡ length ps
  pub context : context_at qs (functions_slot + 4 * f) ≡ c
  pub exprs : records_in t totals_slot f qs ≡ es
  pub same : (k : ℕ) → ((e : ℕ) → e < (row_at t f).expressions → totals_slot + expressions_from (row_at t f) + e ≡ k → ⊥) → ((i : ℕ) → i < 4 → functions_slot + 4 * f + i ≡ k → ⊥)
      → get_or qs k none ≡ get_or ps k none

-- what the slots of the total of f count for
abbrev pub total_count : (t : List ℕ) → FunctionHandle → List PartReq → ℕ
total_count t f ps = record_pieces (records_in t totals_slot f ps) + pieces (context_at ps (functions_slot + 4 * f))

-- what a new total asks of the slots: the current context stands at `at`
pub record Totalling (t rs : List ℕ) (f : FunctionHandle) (at : ℕ) : Type 0 where
  pub function : f < max_functions
  pub items : items_to (row_at t f) ≤ max_items
  pub low : stack_slot ≤ at
  pub high : at + 4 ≤ length rs

-- the total of f has the context c, and its records are extended by those of the open function
pub record TotalMade (t : List ℕ) (f : FunctionHandle) (s rs : List ℕ) (c : RequiredContext) (u us : List ℕ) : Type 0 where
  pub memory : Memory u us
  pub total : NewTotal t f (read s rs) (read u us) c (extend (records_in t totals_slot f (read s rs)) (records_in t exprs_slot f (read s rs)))

-- whatever the store: the current context is that of the total
pub record TotalKept (t : List ℕ) (f : FunctionHandle) (at : ℕ) (rs us : List ℕ) : Type 0 where
  pub is : (s : List ℕ) → Memory s rs → TotalMade t f s rs (context_at (read s rs) at) s us

-- the current context is joined to that of the total; whether a limit is passed
pub record TotalJoined (t : List ℕ) (f : FunctionHandle) (at : ℕ) (s rs : List ℕ) (r : Bool) (u us : List ℕ) : Type 0 where
  pub made : TotalMade t f s rs (merge_context (context_at (read s rs) (functions_slot + 4 * f)) (context_at (read s rs) at)) u us
  pub over : r ≡ over_context (merge_context (context_at (read s rs) (functions_slot + 4 * f)) (context_at (read s rs) at))
  pub spent : top u ≤ top s + (pieces (context_at (read s rs) (functions_slot + 4 * f)) + pieces (context_at (read s rs) at))

-- what counting the slots of the total of f asks
pub record Weighing (t s rs : List ℕ) (f : FunctionHandle) : Type 0 where
  pub memory : Memory s rs
  pub function : f < max_functions
  pub items : items_to (row_at t f) ≤ max_items
  pub few : total_count t f (read s rs) ≤ entries_cap
