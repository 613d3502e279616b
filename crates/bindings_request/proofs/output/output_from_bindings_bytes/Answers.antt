-- `bindings_request::output::output_from_bindings_bytes` meets its contract: 12 of the list, 11, 20, then what the store's function answers, written.
use Rattle.bindings_request.proofs.Modules.{rows_sized, rows_bound}
use lib.ListN.{length}
use Rattle.bindings_request.proofs.Asking.{output_malformed, output_no_such, output_short, output_asks, output_write_asks, output_gave}
use Rattle.request.proofs.Ways.{there, missing, refuses_as}
use Rattle.bindings_request.specs.Boundary.{refused_by}
use Rattle.bindings_request.proofs.output.output_from_bindings_bytes.Goals as goal

pub returns-in_err-s : goal.returns-in_err-s
returns-in_err-s c =
    rw (refuses_as refused_by _ c.from_residual.ensures.1 c.ok_or.ensures.value c.in_err-s.was)
    (output_malformed c.args.file.now.bytes c.args.file.now.t c.args.list.now (length c.args.out.now) c.args.f.0 c.set_of.ensures (missing c.ok_or.ensures.ok_part c.in_err-s.was))

pub returns-then-functions-f : goal.returns-then-functions-f
returns-then-functions-f c =
    rw c.into.ensures
    (output_no_such c.args.file.now.bytes c.args.file.now.t c.args.list.now (length c.args.out.now) c.args.f.0 c.set_of.ensures (there c.ok_or.ensures.ok_part c.in_ok-s.was) c.functions.ensures c.if-functions-f.true)

pub returns-then-out-lt-MIN_REPORT : goal.returns-then-out-lt-MIN_REPORT
returns-then-out-lt-MIN_REPORT c =
    rw c.into-then-out-lt-MIN_REPORT.ensures
    (output_short c.args.file.now.bytes c.args.file.now.t c.args.list.now (length c.args.out.now) c.args.f.0 c.set_of.ensures (there c.ok_or.ensures.ok_part c.in_ok-s.was) c.functions.ensures c.if-functions-f.false c.if-out-lt-MIN_REPORT.true)

pub invariant_of-types : goal.invariant_of-types
invariant_of-types c = record { all_bound = rows_bound c.requires.tables; all_sized = rows_sized c.requires.tables }

pub output_from_bindings-a-requires : goal.output_from_bindings-a-requires
output_from_bindings-a-requires c =
    let q9 = output_asks c.args.file.now.bytes c.args.file.now.t c.args.list.now (length c.args.out.now) c.args.f.0 c.set_of.ensures (there c.ok_or.ensures.ok_part c.in_ok-s.was) c.functions.ensures c.if-functions-f.false c.requires.tables c.result-declared.result c.result-declared.ensures c.requires.parts_len.0 c.requires.parts_len.1 c.init.ensures.0 c.init.ensures.1 c.init.ensures.2 in
    record { good = q9.0; parts_len = q9.1.0; bound_result = q9.1.1 }

pub write_asking-requires : goal.write_asking-requires
write_asking-requires c =
    let q9 = output_write_asks c.args.file.now.bytes c.args.file.now.t c.args.list.now (length c.args.out.now) c.args.f.0 c.set_of.ensures (there c.ok_or.ensures.ok_part c.in_ok-s.was) c.functions.ensures c.if-functions-f.false c.requires.tables c.result-declared.result c.result-declared.ensures c.output_from_bindings-a.ensures c.if-out-lt-MIN_REPORT.false in
    record { good = q9.0; globals_bound = q9.1.0; min_report_in_bounds = q9.1.1 }

pub returns : goal.returns
returns c =
    output_gave c.args.file.now.bytes c.args.file.now.t c.args.list.now (length c.args.out.now) c.args.f.0 c.set_of.ensures (there c.ok_or.ensures.ok_part c.in_ok-s.was) c.functions.ensures c.if-functions-f.false c.requires.tables c.result-declared.result c.result-declared.ensures c.output_from_bindings-a.ensures c.if-out-lt-MIN_REPORT.false c.write_asking.ensures
