-- What the walks ask of the memory, and what they leave.
use Rattle.std.specs.Prelude.{◌≡◌, List, ℕ, ◌+◌, ◌<◌, ◌≤◌, length, get_or, Result, Ok, Err}
use Rattle.field.specs.Limits.{max_pieces}
use Rattle.field.specs.Refusal.{number}
use Rattle.part.specs.PartReq.{none}
use Rattle.part.specs.Store.{Room}
use Rattle.part.specs.StoreLimits.{entries_cap}
use Rattle.module.specs.Module.{FunctionHandle}
use Rattle.module.specs.Tables.{row_at, expressions_from, module_of}
use Rattle.access.specs.Laid.{WasRead}
use Rattle.context.specs.RequiredContext.{pieces}
use Rattle.walk.specs.State.{Out, went, halt}
use Rattle.memory.specs.Layout.{globals_slot, exprs_slot, stack_slot, room}
use Rattle.memory.specs.Memory.{read, counted, context_at, Memory}
use Rattle.state.specs.declared.answer.Tally.{Tally}
use Rattle.state.specs.declared.answer.Halt.{Halt}
use Rattle.state.specs.State.{Rest, state_of, sum_in, place_of}

-- The function f is open, with its current context in the slots from `at` on. `sum` is what records and totals count for; what else the slots have,
-- `held` counts.
pub record Ready (bytes t s rs : List ℕ) (f : FunctionHandle) (at held sum : ℕ) : Type 0 where
  pub was_read : WasRead bytes t
  pub function : f < length (module_of bytes t).functions
  pub memory : Memory s rs
  pub low : stack_slot ≤ at
  pub high : at + 4 ≤ length rs
  pub sums : sum ≡ sum_in t f (read s rs)
  pub owned : counted (read s rs) ≤ held + (pieces (context_at (read s rs) at) + sum)
  pub small : held + (pieces (context_at (read s rs) at) + sum) ≤ entries_cap

-- the slot k is none of the state's own: the total of globals, the records of f, the current context
pub record Elsewhere (t : List ℕ) (f : FunctionHandle) (at k : ℕ) : Type 0 where
  pub no_total : k ≡ globals_slot → ⊥
  pub no_record : (e : ℕ) → e < (row_at t f).expressions → k ≡ exprs_slot + expressions_from (row_at t f) + e → ⊥
  pub no_context : (i : ℕ) → i < 4 → k ≡ at + i → ⊥

-- no other slot means anything else than before
pub record Others (t : List ℕ) (f : FunctionHandle) (at : ℕ) (s rs u us : List ℕ) : Type 0 where
  pub long : length us ≡ length rs
  pub same : (k : ℕ) → Elsewhere t f at k → get_or (read u us) k none ≡ get_or (read s rs) k none

-- the walk went as `total` says, and left u and us, with room for a visit
pub record Ended (bytes t : List ℕ) (f : FunctionHandle) (at held : ℕ) (s rs : List ℕ) (rest : Rest) (total : Out (Unit {0})) (visits sum : ℕ) (u us : List ℕ) : Type 0 where
  pub is : went (state_of t f at (read u us) rest visits) tt ≡ total
  pub ready : Ready bytes t u us f at held sum
  pub few : held + (pieces (context_at (read u us) at) + sum) ≤ max_pieces
  pub roomy : Room u room
  pub others : Others t f at s rs u us

abbrev pub Ending : (bytes t : List ℕ) → FunctionHandle → (at held : ℕ) → (s rs : List ℕ) → Rest → Out (Unit {0}) → Result Tally Halt → (u us : List ℕ) → Type 0
Ending bytes t f at held s rs rest total (Ok tally) u us = Ended bytes t f at held s rs rest total tally.visits tally.sum u us
Ending bytes t f at held s rs rest total (Err h) u us = halt (number h.refusal) (place_of h.place) ≡ total

-- the answer, and the memory that is left, are what `total` says
pub record Ends (bytes t : List ℕ) (f : FunctionHandle) (at held : ℕ) (s rs : List ℕ) (rest : Rest) (total : Out (Unit {0})) (r : Result Tally Halt) (u us : List ℕ) : Type 0 where
  pub by : Ending bytes t f at held s rs rest total r u us
