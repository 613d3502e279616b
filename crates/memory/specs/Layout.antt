-- How the slots of a walk's memory are laid out, and how large it is. No proof computes with one of these values.
use Rattle.std.specs.Prelude.{ℕ, ◌+◌, ◌*◌}
use Rattle.field.specs.Limits.{max_functions, max_depth, max_pieces}
use Rattle.part.specs.StoreLimits.{cell_words, table_words}
use Rattle.module.specs.Tables.{max_items}

-- the slots of all and of exist
abbrev pub all_slot : ℕ
all_slot = 0

abbrev pub exist_slot : ℕ
exist_slot = 1

-- the part that a statement asks with
abbrev pub ask : ℕ
ask = 2

-- what the result of the statement is asked for; or a context that is put aside, as one piece with an entry for each of its maps
abbrev pub result : ℕ
result = 3

-- what a called function needs of its arguments
abbrev pub returned : ℕ
returned = 4

-- the flat parts: those that a swizzle can ask, by the code of their four digits
abbrev pub flat_slot : ℕ
flat_slot = 5

abbrev pub flat_count : ℕ
flat_count = 81

-- the total of globals: from this slot on, 16 counts
abbrev pub globals_slot : ℕ
globals_slot = flat_slot + flat_count

-- the records of the open functions, by the expression's number among the file's items
abbrev pub exprs_slot : ℕ
exprs_slot = globals_slot + 1

-- the records of the functions' totals
abbrev pub totals_slot : ℕ
totals_slot = exprs_slot + max_items

-- the contexts of the functions' totals, four slots each
abbrev pub functions_slot : ℕ
functions_slot = totals_slot + max_items

-- the open contexts, four slots each
abbrev pub stack_slot : ℕ
stack_slot = functions_slot + 4 * max_functions

-- A block that holds others takes at most three contexts above its own, and has a statement: so six slots for each of the file's blocks and statements suffice. Two
-- contexts stand below the first block's.
abbrev pub stack_slots : ℕ
stack_slots = 6 * max_items + 16

abbrev pub slot_count : ℕ
slot_count = stack_slot + stack_slots

-- The most entries that the slots have when what is not needed is freed. Between two visits they may pass what 16 allows: a join is counted only as the
-- next visit begins.
abbrev pub most : ℕ
most = 3 * max_pieces

-- the most cells that stay after a collection: those entries, what is asked, of the result too, what is returned, and the flat parts
abbrev pub live : ℕ
live = most + 3 * (max_pieces + 4) + 4 * flat_count

-- the most cells that a visit makes by itself
abbrev pub room : ℕ
room = 4 * max_pieces + 4 * max_depth + 16

-- the words of the store: its cells, and the table by which they are found
abbrev pub store_size : ℕ
store_size = cell_words * (3 + live + room) + table_words
