-- What has been read, as the tables have it: before the first record, and what the next record may refer to.
use mathlib.Core.Path.{◌≡◌}
use mathlib.Core.List.{List, []}
use Prim.Native.Nat.{ℕ, ◌+◌, ◌≤◌}
use native.Mathlib.Omega.{arith}
use lib.ListN.{length, get_or, get_or-eq_default}
use Rattle.field.specs.Field.{field_at}
use Rattle.module.specs.declared.tables.Counts.{Counts}
use Rattle.module.specs.Module.{Function}
use Rattle.module.specs.Record.{fields_to, body_at}
use Rattle.module.specs.Decode.{tab, type_of, arg_of, typed_of, st_of}
use Rattle.module.specs.Reading.{opened, scope_of, closed}
use Rattle.module.specs.File.{start}
use Rattle.module.specs.Tables.{emitted_of, locals_from, expressions_from, statements_from, type_body, global_body, item_body, open_of, function_of, reading_of, scope_in}
use Rattle.reading.specs.Reads.{no_counts}
use Rattle.module.proofs.Tab.{length-tab, map-tab}

-- past the end of the bytes a record has no field
body_none : (bytes : List ℕ) (at : ℕ) → length bytes ≤ at → body_at bytes at ≡ []
unfolding body_at field_at fields_to
body_none bytes at h =
    let a : length bytes ≤ at + 2 = omega arith in
    let b : length bytes ≤ at + 2 + 1 = omega arith in
    rw (get_or-eq_default bytes 0 a, get_or-eq_default bytes 0 b)

pub start_is : (bytes t : List ℕ) → reading_of bytes t (no_counts (length bytes)) ≡ start
unfolding reading_of open_of emitted_of start opened tab
start_is bytes t = rw (body_none bytes (length bytes) (omega arith))

pub scope_is : (bytes t : List ℕ) (c : Counts) → scope_of (reading_of bytes t c) ≡ scope_in bytes t c
unfolding scope_of reading_of scope_in open_of function_of closed
scope_is bytes t c =
    rw
    (length-tab c.types (λ i. type_of (type_body bytes t i)), length-tab c.globals (λ i. get_or (global_body bytes t i) 0 0), length-tab c.functions (function_of bytes t), length-tab c.row.arguments (λ i. arg_of (item_body bytes t (c.row.items + i))), length-tab c.row.locals (λ i. get_or (item_body bytes t (locals_from c.row + i)) 0 0), length-tab c.row.expressions (λ i. typed_of (item_body bytes t (expressions_from c.row + i))), length-tab c.row.statements (λ i. st_of (item_body bytes t (statements_from c.row + i))), map-tab (λ (f : Function). f.entry) c.functions (function_of bytes t))
