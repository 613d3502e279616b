-- `boundary::rows::read_rows` meets its contract: the file's refusal, or the rows filled in.
use mathlib.Core.Path.{refl}
use Rattle.requests.proofs.Rows.{rows_end, rows_part, rows_few, rows_sized}
use Rattle.boundary.proofs.Answers.{file_was_read}
use Rattle.boundary.proofs.rows.read_rows.Goals as goal

pub slice_bounds-rows-end : goal.slice_bounds-rows-end
slice_bounds-rows-end c =
    rows_end _ _ (file_was_read c.new-file.ensures.bytes c.new-file.ensures.tables c.in_ok-read.ensures refl) c.types.ensures c.requires.rows

pub fill-requires : goal.fill-requires
fill-requires c =
    let was = file_was_read c.new-file.ensures.bytes c.new-file.ensures.tables c.in_ok-read.ensures refl in
    let long = rows_part _ _ was c.types.ensures _ c.requires.rows in
    record { table_len = long; table_len_bound = rows_few _ _ was long; all_sized = rows_sized _ _ was }
