-- A called function is left: its records and contexts are forgotten, and what it needs of its arguments is returned.
use Rattle.std.specs.Prelude.{◌≡◌, List, false, ℕ, ◌+◌, ◌<◌, ◌≤◌, length, get_or, set}
use Rattle.field.specs.Limits.{max_functions, max_pieces}
use Rattle.part.specs.PartReq.{none, entries, over}
use Rattle.module.specs.Module.{FunctionHandle}
use Rattle.module.specs.Tables.{row_at, expressions_from, module_of}
use Rattle.memory.specs.Layout.{exprs_slot, totals_slot, stack_slot, returned}
use Rattle.memory.specs.Memory.{read, sum_from, Memory}
use Rattle.memory.specs.Stretches.{four_set, forgotten}
use Rattle.access.specs.Laid.{WasRead}
use Rattle.leave.specs.declared.leave.Stretch.{Stretch}

-- the records of f, from its first on among those of all functions
pub record RecordsAt (t : List ℕ) (f : FunctionHandle) (r : Stretch) : Type 0 where
  pub from : r.from ≡ expressions_from (row_at t f)
  pub n : r.n ≡ (row_at t f).expressions

-- f has slots for its records, and for a total
pub record Placed (t rs : List ℕ) (f : FunctionHandle) : Type 0 where
  pub few : f < max_functions
  pub records : exprs_slot + expressions_from (row_at t f) + (row_at t f).expressions ≤ totals_slot
  pub slots : stack_slot ≤ length rs

-- the entries of the records of f
abbrev pub own_in : (t s rs : List ℕ) → FunctionHandle → ℕ
own_in t s rs f = sum_from (read s rs) (exprs_slot + expressions_from (row_at t f)) (row_at t f).expressions

-- the arguments' map of the context in the slots from `at` on is what is returned, the records of f are forgotten, and both contexts are empty
abbrev pub left_slots : (t rs : List ℕ) → FunctionHandle → (base at : ℕ) → List ℕ
left_slots t rs f base at =
    four_set
    (four_set (forgotten (set rs returned (get_or rs (at + 2) 0)) (exprs_slot + expressions_from (row_at t f)) (row_at t f).expressions) base 2 2 2 2)
    at 2 2 2 2

-- f was left: what its context has for the arguments is small and within the limits
pub record Leaving (bytes t s rs : List ℕ) (f : FunctionHandle) (base at : ℕ) : Type 0 where
  pub was_read : WasRead bytes t
  pub function : f < length (module_of bytes t).functions
  pub memory : Memory s rs
  pub base_low : stack_slot ≤ base
  pub base_high : base + 4 ≤ length rs
  pub low : stack_slot ≤ at
  pub high : at + 4 ≤ length rs
  pub few : entries (get_or (read s rs) (at + 2) none) ≤ max_pieces + 4
  pub within : over (get_or (read s rs) (at + 2) none) ≡ false
