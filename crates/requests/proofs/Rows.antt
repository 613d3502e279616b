-- A table that has room for a row of each type that a file may have: how much of it a file fills, and what filling that asks.
use mathlib.Core.Path.{◌≡◌}
use mathlib.Core.List.{List}
use Prim.Native.Nat.{ℕ, ◌*◌, ◌-◌, ◌≤◌}
use native.Mathlib.Omega.{arith}
use lib.ListN.{length, take, length-take}
use Rattle.field.specs.Limits.{max_types}
use Rattle.module.specs.File.{accepted, read_module}
use Rattle.module.specs.Tables.{module_of}
use Rattle.valid.proofs.Accepted.{valid}
use Rattle.context.specs.Types.{type_words, AllSized}
use Rattle.type_table.proofs.AllSized.{all_sized}

module _ (bytes t : List ℕ) (R : read_module bytes ≡ accepted (module_of bytes t)) where
  pub types-few : length (module_of bytes t).types ≤ max_types
  types-few = (valid bytes (module_of bytes t) R).few_types

  pub rows_few : {l : ℕ} → l ≡ type_words * length (module_of bytes t).types → l ≤ type_words * max_types
  rows_few e = omega (arith, types-few, e)

  pub rows_sized : AllSized (module_of bytes t).types
  rows_sized = all_sized (module_of bytes t) (valid bytes (module_of bytes t) R)

  module _ {n : ℕ} (N : n ≡ length (module_of bytes t).types) where
    pub rows_end : {l : ℕ} → type_words * max_types ≤ l → type_words * n ≤ l
    rows_end h = omega (arith, types-few, N)

    pub rows_part : (table : List ℕ) → type_words * max_types ≤ length table → length (take (type_words * n - 0) table) ≡ type_words * length (module_of bytes t).types
    rows_part table h = simp length-take (omega (arith, types-few, N))
