-- How the rows of a module that was read lie: each function's items follow those of the one before, and all are within the table.
use Rattle.std.specs.Prelude.{ℕ, suc, ◌+◌, ◌<◌, ◌≤◌, ◌≡◌, List}
use Rattle.module.specs.File.{read_module, accepted}
use Rattle.module.specs.Tables.{word, row_at, head_at, items_to, max_items, module_of}

pub record Laid (t : List ℕ) : Type 0 where
  pub next : (f : ℕ) → suc f < word t (head_at + 2) → items_to (row_at t f) ≤ (row_at t (suc f)).items
  pub within : (f : ℕ) → f < word t (head_at + 2) → items_to (row_at t f) ≤ max_items

-- the module was read
pub record WasRead (bytes t : List ℕ) : Type 0 where
  pub module_is : read_module bytes ≡ accepted (module_of bytes t)
  pub laid : Laid t
