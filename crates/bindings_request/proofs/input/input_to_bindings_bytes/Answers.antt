-- `bindings_request::input::input_to_bindings_bytes` meets its contract: what checking the context answers, and then the list.
use Rattle.std.proofs.lemmas.Result.{err_from_is_err_and}
use native.Mathlib.Omega.{arith}
use mathlib.Core.Path.{refl, sym, ap, ◌∙◌}
use lib.ListN.{length}
use Prim.Native.Nat.{◌<◌}
use Rattle.module.specs.Tables.{module_of}
use Rattle.field.proofs.Refusals.{some_number}
use Rattle.context_bytes.specs.Checked.{status}
use Rattle.bindings_request.proofs.Modules.{rows_bound, rows_few, arguments-few}
use Rattle.bindings_request.proofs.Filled.{args_bound}
use Rattle.bindings_request.proofs.Needing.{needing_past, needing_refused, needing_accepts, needing_short, needing_args, needing_asserts, needing_given}
use Rattle.bindings_request.proofs.input.input_to_bindings_bytes.Goals as goal

pub returns-then-functions-f : goal.returns-then-functions-f
returns-then-functions-f c =
    rw c.into.ensures (needing_past _ _ _ _ c.functions.ensures c.if-functions-f.true c.without_function.ensures)

pub returns-in_err-check_context : goal.returns-in_err-check_context
returns-in_err-check_context c =
    let p = err_from_is_err_and c.from_residual.result c.from_residual.ensures.1 in
    rw (p.1, p.2)
    (needing_refused c.requires.tables (length c.args.out.now) (omega (arith, c.if-functions-f.false, c.functions.ensures)) c.args.context.now c.globals.ensures c.arguments-n.ensures c.locals-l.ensures c.check_context.ensures _ (ap status c.in_err-check_context.was) (rw c.in_err-check_context.was (some_number _)))

pub returns-then-out : goal.returns-then-out
returns-then-out c =
    let h : c.args.f.0 < length (module_of c.args.file.now.bytes c.args.file.now.t).functions = omega (arith, c.if-functions-f.false, c.functions.ensures) in
    let A = needing_accepts c.requires.tables (length c.args.out.now) h c.args.context.now c.globals.ensures c.arguments-n.ensures c.locals-l.ensures (ap status (sym c.in_ok-check_context.was) ∙ c.check_context.ensures) refl in
    rw c.into-then-out.ensures (needing_short c.requires.tables (length c.args.out.now) h c.args.context.now A c.if-out.true)

pub slice_bounds-own-end : goal.slice_bounds-own-end
slice_bounds-own-end c =
    omega (arith, c.requires.sets_len.1, c.arguments-n.ensures, arguments-few c.requires.tables c.args.f.0 (omega (arith, c.if-functions-f.false, c.functions.ensures)))

pub fill-requires-clause-args_len_bound : goal.fill-requires-clause-args_len_bound
fill-requires-clause-args_len_bound c =
    omega (arith, c.arguments-n.ensures, arguments-few c.requires.tables c.args.f.0 (omega (arith, c.if-functions-f.false, c.functions.ensures)))

pub invariant_of-types : goal.invariant_of-types
invariant_of-types c = record { all_bound = rows_bound c.requires.tables }

pub all_table-requires-clause-sets_len_bound : goal.all_table-requires-clause-sets_len_bound
all_table-requires-clause-sets_len_bound c = omega (arith, rows_few c.requires.tables, c.requires.sets_len.0)

pub invariant_of-variables : goal.invariant_of-variables
invariant_of-variables c =
    let h : c.args.f.0 < length (module_of c.args.file.now.bytes c.args.file.now.t).functions = omega (arith, c.if-functions-f.false, c.functions.ensures) in
    let A = needing_accepts c.requires.tables (length c.args.out.now) h c.args.context.now c.globals.ensures c.arguments-n.ensures c.locals-l.ensures (ap status (sym c.in_ok-check_context.was) ∙ c.check_context.ensures) refl in
    record { readable = needing_args c.requires.tables (length c.args.out.now) h c.args.context.now A c.args_bytes.ensures }

pub input_to_bindings-requires-clause-bound_args : goal.input_to_bindings-requires-clause-bound_args
input_to_bindings-requires-clause-bound_args c =
    args_bound c.requires.tables (omega (arith, c.if-functions-f.false, c.functions.ensures)) c.fill.ensures

pub returns-in_err-s : goal.returns-in_err-s
returns-in_err-s c =
    let h : c.args.f.0 < length (module_of c.args.file.now.bytes c.args.file.now.t).functions = omega (arith, c.if-functions-f.false, c.functions.ensures) in
    let A = needing_accepts c.requires.tables (length c.args.out.now) h c.args.context.now c.globals.ensures c.arguments-n.ensures c.locals-l.ensures (ap status (sym c.in_ok-check_context.was) ∙ c.check_context.ensures) refl in
    let p = err_from_is_err_and c.from_residual-in_err-s.result c.from_residual-in_err-s.ensures.1 in
    rw (p.1, p.2)
    (needing_asserts c.requires.tables (length c.args.out.now) h c.args.context.now A c.args_bytes.ensures _ c.fill.ensures c.input_to_bindings.result c.input_to_bindings.ensures c.if-out.false c.in_err-s.was)

pub returns : goal.returns
returns c =
    let h : c.args.f.0 < length (module_of c.args.file.now.bytes c.args.file.now.t).functions = omega (arith, c.if-functions-f.false, c.functions.ensures) in
    let A = needing_accepts c.requires.tables (length c.args.out.now) h c.args.context.now c.globals.ensures c.arguments-n.ensures c.locals-l.ensures (ap status (sym c.in_ok-check_context.was) ∙ c.check_context.ensures) refl in
    needing_given c.requires.tables (length c.args.out.now) h c.args.context.now A c.args_bytes.ensures _ c.fill.ensures c.input_to_bindings.result c.input_to_bindings.ensures c.if-out.false c.in_ok-s.was c.write_list.ensures
