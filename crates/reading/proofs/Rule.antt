-- The block rule of the function that a row stands for, from what was counted.
use mathlib.Core.Path.{◌≡◌, ◌∙◌}
use mathlib.Core.Bool.{Bool, false, ◌&&◌}
use mathlib.Core.List.{List}
use Prim.Native.Nat.{ℕ, ◌+◌, ◌-◌, ◌<◌, ◌≤◌}
use native.Mathlib.Omega.{arith}
use lib.Dec.{ltb}
use lib.ListN.{length}
use borrow.Author.Tests.{lt-ltb, le-ltb}
use Rattle.module.specs.Decode.{st_of}
use Rattle.module.specs.declared.tables.Row.{Row}
use Rattle.module.specs.Blocks.{holders_above, held_in_all, each_once, block_rule}
use Rattle.module.specs.Reading.{closed, range_of}
use Rattle.module.specs.Tables.{word, blocks_at, starts_of, open_of}
use Rattle.module.proofs.Tab.{length-tab}
use Rattle.reading.specs.Holding.{counted, cleared, ones, fields_of, statements_of, blocks_of}
use Rattle.reading.proofs.Once.{ones-once}

module _ (bytes t : List ℕ) (row : Row) where
  rule : block_rule (closed (open_of bytes t row)) ≡ (ltb 0 row.blocks && (holders_above (statements_of bytes t row) 0 (blocks_of t row) && each_once (row.blocks - 1) (held_in_all (statements_of bytes t row) (blocks_of t row))))
  unfolding block_rule closed open_of
  rule =
      rw
      (length-tab row.blocks (λ k. word t (blocks_at + (row.earlier + k))), length-tab row.statements (λ k. st_of (fields_of bytes t row k)), length-tab row.blocks (range_of (starts_of t row) row.statements))

  pub no_body : row.blocks ≡ 0 → false ≡ block_rule (closed (open_of bytes t row))
  no_body e = rw (rule, le-ltb 0 row.blocks (omega arith))

  pub rule_is : (first seen seen2 : List ℕ) (below once r : Bool) → 0 < row.blocks → row.blocks ≤ length first → seen ≡ cleared first row.blocks → (below ≡ holders_above (statements_of bytes t row) 0 (blocks_of t row)) × (seen2 ≡ counted seen (held_in_all (statements_of bytes t row) (blocks_of t row))) → once ≡ ones (row.blocks - 1) seen2 → r ≡ (below && once) → r ≡ block_rule (closed (open_of bytes t row))
  rule_is first seen seen2 below once r p m c h o e =
      let w : ones (row.blocks - 1) (counted (cleared first row.blocks) (held_in_all (statements_of bytes t row) (blocks_of t row))) ≡ each_once (row.blocks - 1) (held_in_all (statements_of bytes t row) (blocks_of t row)) = ones-once first (held_in_all (statements_of bytes t row) (blocks_of t row)) (row.blocks - 1) row.blocks (omega arith) m in
      e ∙ rw (rule, lt-ltb 0 row.blocks p, h.0, o, h.1, c, w)
