-- `boundary::serve::request_in` meets its contract: it is `request_of` over tables of its own, in which the types' rows are filled in.
use native.Mathlib.Omega.{arith}
use Rattle.requests.proofs.Rows.{rows_end, rows_part, rows_few, rows_sized}
use Rattle.boundary.proofs.serve.request_in.Goals as goal

pub slice_bounds-table-end : goal.slice_bounds-table-end
slice_bounds-table-end c = rows_end _ _ c.requires.module_is c.types.ensures (omega arith)

pub fill-requires : goal.fill-requires
fill-requires c =
    let was = c.requires.module_is in
    record {
      table_len = rows_part _ _ was c.types.ensures _ (omega arith);
      table_len_bound = rows_few _ _ was (rows_part _ _ was c.types.ensures _ (omega arith));
      all_sized = rows_sized _ _ was;
    }
