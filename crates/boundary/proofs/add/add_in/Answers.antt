-- `boundary::add::add_in` meets its contract: the number of the file's refusal, or of what is answered of the module that was read.
use native.Mathlib.Omega.{arith}
use Rattle.std.proofs.lemmas.Result.{err_from_is_err_and}
use Rattle.boundary.proofs.Answers.{file_refused, file_read}
use Rattle.bindings_request.proofs.Answers.{gave_refused}
use Rattle.boundary.proofs.Lengths.{long_request}
use Rattle.requests.proofs.Rows.{types-few}
use Rattle.boundary.proofs.Types.{as_many, ones_part, lent_part}
use Rattle.boundary.proofs.add.add_in.Goals as goal

pub returns-in_err-file : goal.returns-in_err-file
returns-in_err-file c =
    let p = err_from_is_err_and c.from_residual.result c.from_residual.ensures.1 in
    rw (p.1, p.2) (file_refused c.args.bytes.now _ (rw c.in_err-file.was at c.read_rows.ensures))

pub returns-in_err-check_length : goal.returns-in_err-check_length
returns-in_err-check_length c =
    let p = err_from_is_err_and c.from_residual-in_err-check_length.result c.from_residual-in_err-check_length.ensures.1 in
    let rows = rw c.in_ok-file.was at c.read_rows.ensures in
    let long = rw c.in_err-check_length.was at c.check_length.ensures in
    rw (p.1, p.2) (file_read c.args.bytes.now _ rows.0 rows.1 (gave_refused _ (rw long.0 (long_request _ _ c.args.b c.args.request.now long.1))))

pub slice_bounds-add_binding_bytes-end : goal.slice_bounds-add_binding_bytes-end
slice_bounds-add_binding_bytes-end c =
    omega (arith, c.requires.max_types_in_bounds, c.types-n.ensures, types-few _ _ (rw c.in_ok-file.was at c.read_rows.ensures).1.read)

pub add_binding_bytes-requires-clause-parts_len : goal.add_binding_bytes-requires-clause-parts_len
add_binding_bytes-requires-clause-parts_len c =
    let T = (rw c.in_ok-file.was at c.read_rows.ensures).1 in
    (as_many _ _ T.read _ T.rows (ones_part _ _ T.read c.types-n.ensures _ c.requires.max_types_in_bounds), lent_part _ _ T.read c.types-n.ensures _ _ _ 65539 c.requires.max_types_in_bounds c.requires.cells_len_bound.0 c.requires.cells_len_bound.1 (rw c.in_ok-check_length.was at c.check_length.ensures).1)

pub returns : goal.returns
returns c =
    let rows = rw c.in_ok-file.was at c.read_rows.ensures in
    file_read c.args.bytes.now _ rows.0 rows.1 c.add_binding_bytes.ensures
