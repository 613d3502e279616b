-- Where the fields of a statement name the blocks that it holds, and how often a block is held, as scratch words have it.
use Rattle.std.specs.Prelude.{ℕ, zero, suc, ◌+◌, ◌*◌, Bool, true, cond, ◌&&◌, List, [], ◌∷◌, ltb, eqb, get_or, set}
use Rattle.module.specs.Module.{BlockHandle, BlockRange, Statement, Break}
use Rattle.module.specs.Decode.{tab}
use Rattle.module.specs.Blocks.{held, held_in}
use Rattle.module.specs.declared.tables.Row.{Row}
use Rattle.module.specs.Reading.{range_of}
use Rattle.module.specs.Tables.{item_body, statements_from, starts_of, open_of}
use Rattle.reading.specs.declared.blocks.Holding.{Holding}

-- by a statement's kind: `count` blocks, the first in the field `first`, the next ones `stride` fields on; a switch (3) has as many as its field 2 says
unfoldable pub holding_of : ℕ → ℕ → Holding
holding_of kind cases =
    get_or
    (record { count = 0; first = 0; stride = 0 }
    ∷ record { count = 1; first = 1; stride = 1 }
    ∷ record { count = 2; first = 2; stride = 1 }
    ∷ record { count = cases; first = 4; stride = 2 }
    ∷ record { count = 2; first = 1; stride = 1 }
    ∷ [])
    kind
    (record { count = 0; first = 0; stride = 0 })

-- the field that names the block i of them
abbrev pub field_of : Holding → ℕ → ℕ
field_of h i = h.first + h.stride * i

-- a count up to 2, with one more
unfoldable pub more : ℕ → ℕ
more n = cond (ltb n 2) (suc n) 2

-- the words with each of these blocks counted
unfoldable pub counted : List ℕ → List BlockHandle → List ℕ
counted seen [] = seen
counted seen (k ∷ ks) = counted (set seen k (more (get_or seen k 0))) ks

-- the n lowest words cleared
unfoldable pub cleared : List ℕ → ℕ → List ℕ
cleared seen zero = seen
cleared seen (suc n) = set (cleared seen n) n 0

-- whether each of the n lowest words is 1
unfoldable pub ones : ℕ → List ℕ → Bool
ones zero seen = true
ones (suc n) seen = eqb (get_or seen n 0) 1 && ones n seen

-- of the function that a row stands for: its statements, the fields of one of them, and what that holds
abbrev pub statements_of : List ℕ → List ℕ → Row → List Statement
statements_of bytes t row = (open_of bytes t row).statements

abbrev pub fields_of : List ℕ → List ℕ → Row → ℕ → List ℕ
fields_of bytes t row s = item_body bytes t (statements_from row + s)

abbrev pub held_at : List ℕ → List ℕ → Row → ℕ → List BlockHandle
held_at bytes t row s = held (get_or (statements_of bytes t row) s Break)

-- what the statements of the block b hold
abbrev pub held_by : List ℕ → List ℕ → Row → ℕ → List BlockHandle
held_by bytes t row b = held_in (statements_of bytes t row) (range_of (starts_of t row) row.statements b)

-- the function's blocks
abbrev pub blocks_of : List ℕ → Row → List BlockRange
blocks_of t row = tab row.blocks (range_of (starts_of t row) row.statements)
