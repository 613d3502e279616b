-- The types of a module that was read fit the arrays that are lent for them.
use mathlib.Core.Path.{◌≡◌, ◌∙◌}
use mathlib.Core.List.{List}
use Prim.Native.Nat.{ℕ, ◌+◌, ◌*◌, ◌-◌, ◌≤◌}
use native.Mathlib.Omega.{arith}
use lib.ListN.{length, take, length-take}
use Rattle.field.specs.Limits.{max_types, max_members, max_pieces}
use Rattle.part.specs.StoreLimits.{cell_words, store_words, table_words}
use Rattle.module.specs.File.{accepted, read_module}
use Rattle.module.specs.Tables.{module_of}
use Rattle.context.specs.Types.{types_of, type_count}
use Rattle.bindings.proofs.Returning.{types_long}
use Rattle.bindings_request.specs.Boundary.{Tables, Lent}
use Rattle.requests.proofs.Rows.{types-few}

module _ (bytes t : List ℕ) (R : read_module bytes ≡ accepted (module_of bytes t)) where
  module _ (types : List ℕ) (F : types_of types ≡ (module_of bytes t).types) where
    pub tables : Tables bytes t types
    tables = record { read = R; rows = F }

    -- a piece for each row
    pub as_many : {l : ℕ} → l ≡ length (module_of bytes t).types → l ≡ type_count types
    as_many e = e ∙ rw (← F) (types_long types)

  -- the parts of the lent arrays that are used
  module _ {n : ℕ} (N : n ≡ length (module_of bytes t).types) where
    pub ones_part : (parts : List ℕ) → max_types ≤ length parts → length (take (n - 0) parts) ≡ length (module_of bytes t).types
    ones_part parts h = simp length-take (omega (arith, types-few bytes t R, N))

    -- room for the pieces of so many types and for a request that is not longer than `long`
    pub lent_part : (cells parts request : List ℕ) (long : ℕ) → max_types ≤ length parts → length cells ≤ store_words → cell_words * (5 + max_members * max_types + max_pieces) + table_words + 2 * long ≤ length cells → length request ≤ long → Lent cells (take (n - 0) parts) request
    lent_part cells parts request long h fits room short =
        record { fits = fits; room = omega (arith, ones_part parts h, types-few bytes t R, room, short) }
