-- A module file that is read: what its room is, and its tables, with a row for each of its types.
use Rattle.std.specs.Prelude.{ℕ, ◌*◌, ◌≤◌, ◌≡◌, List, length, Result, Ok, Err}
use Rattle.std.specs.Borrow.{Bor}
use Rattle.field.specs.Limits.{max_types}
use Rattle.field.specs.Refusal.{number}
use Rattle.field.specs.declared.refusal.Refusal.{Refusal}
use Rattle.module.specs.Scan.{values}
use Rattle.module.specs.File.{refused, read_module}
use Rattle.module.specs.Tables.{words, max_items}
use Rattle.access.specs.File.{File}
use Rattle.context.specs.Types.{type_words}
use Rattle.bindings_request.specs.Boundary.{Tables}
use Rattle.boundary.specs.declared.room.FileRoom.{FileRoom}

-- room for whatever the bytes say
pub record Roomy (room : FileRoom) : Type 0 where
  pub tables : words ≤ length room.t.now
  pub rows : type_words * max_types ≤ length room.rows.now
  pub seen : values ≤ length room.seen.now
  pub held : max_items ≤ length room.held.now

abbrev pub RowsRead : (bytes : List ℕ) → Result (File × Bor (List ℕ)) Refusal → Type 0
RowsRead bytes (Err r) = read_module bytes ≡ refused (number r)
RowsRead bytes (Ok r) = (r.0.bytes ≡ bytes) × Tables r.0.bytes r.0.t r.1.now
