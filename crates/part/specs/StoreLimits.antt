-- The sizes of a store of pieces. No proof computes with the last value.
use Rattle.std.specs.Prelude.{ℕ}

-- the words of a cell
abbrev pub cell_words : ℕ
cell_words = 7

-- the most words that a store may have
abbrev pub store_words : ℕ
store_words = 2097152

-- entries are counted up to this many
abbrev pub entries_cap : ℕ
entries_cap = 1048576

-- the chains of the look-up, whose first numbers stand in the last words of a store
abbrev pub buckets : ℕ
buckets = 16384

-- the sums that are remembered, three words each, after the chains
abbrev pub memo_slots : ℕ
memo_slots = 4096

-- the words of chains and remembered sums
abbrev pub table_words : ℕ
table_words = 28672
