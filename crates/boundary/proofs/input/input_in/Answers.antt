-- `boundary::input::input_in` meets its contract: the number of the file's refusal, or of what is answered of the module that was read.
use native.Mathlib.Omega.{arith}
use Rattle.std.proofs.lemmas.Result.{err_from_is_err_and}
use Rattle.boundary.proofs.Answers.{file_refused, file_read}
use Rattle.requests.proofs.Rows.{types-few}
use Rattle.boundary.proofs.Types.{as_many, ones_part}
use Rattle.boundary.proofs.input.input_in.Goals as goal

pub returns-in_err-file : goal.returns-in_err-file
returns-in_err-file c =
    let p = err_from_is_err_and c.from_residual.result c.from_residual.ensures.1 in
    rw (p.1, p.2) (file_refused c.args.bytes.now _ (rw c.in_err-file.was at c.read_rows.ensures))

pub slice_bounds-input_to_bindings_bytes-end : goal.slice_bounds-input_to_bindings_bytes-end
slice_bounds-input_to_bindings_bytes-end c =
    omega (arith, c.requires.max_types_in_bounds.0, c.types-n.ensures, types-few _ _ (rw c.in_ok-file.was at c.read_rows.ensures).1.read)

pub input_to_bindings_bytes-requires-clause-sets_len : goal.input_to_bindings_bytes-requires-clause-sets_len
input_to_bindings_bytes-requires-clause-sets_len c =
    let T = (rw c.in_ok-file.was at c.read_rows.ensures).1 in
    (as_many _ _ T.read _ T.rows (ones_part _ _ T.read c.types-n.ensures _ c.requires.max_types_in_bounds.0), c.requires.max_types_in_bounds.1)

pub returns : goal.returns
returns c =
    let rows = rw c.in_ok-file.was at c.read_rows.ensures in
    file_read c.args.bytes.now _ rows.0 rows.1 c.input_to_bindings_bytes.ensures
