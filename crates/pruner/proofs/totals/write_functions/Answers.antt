-- `pruner::totals::write_functions` meets its contract: the loop's invariant says that the totals of the first f functions are written.
use Rattle.module.specs.Tables.{module_of}
use Rattle.memory.specs.Memory.{read}
use Rattle.marks.specs.Report.{totals_of}
use Rattle.block.specs.Standing.{total_in}
use Rattle.pruner.proofs.Whole.{functions_none, function_room, function_again, functions_room, functions_done}
use native.Mathlib.Omega.{arith}
use Rattle.pruner.proofs.totals.write_functions.Goals as goal

pub loop-f-init : goal.loop-f-init
loop-f-init c =
    functions_none (total_in (module_of c.args.file.now.bytes c.args.file.now.t) c.args.file.now.t (read c.args.cells.now c.args.slots.now) (totals_of c.args.flags.now c.args.kept.now))

pub write_function-requires : goal.write_function-requires
write_function-requires c =
    record { has_totals = (c.requires.has_totals, omega (arith, c.functions-f-end.ensures, c.loop-f-test.true)); fits = function_room (total_in (module_of c.args.file.now.bytes c.args.file.now.t) c.args.file.now.t (read c.args.cells.now c.args.slots.now) (totals_of c.args.flags.now c.args.kept.now)) c.loop-f.invariant c.loop-f-test.true (functions_room c.args.file.now.bytes c.args.file.now.t c.args.cells.now c.args.slots.now (totals_of c.args.flags.now c.args.kept.now) c.functions-f-end.ensures c.args.writer.now c.requires.fits) }

pub loop-f-preserved : goal.loop-f-preserved
loop-f-preserved c =
    function_again (total_in (module_of c.args.file.now.bytes c.args.file.now.t) c.args.file.now.t (read c.args.cells.now c.args.slots.now) (totals_of c.args.flags.now c.args.kept.now)) c.loop-f.invariant c.loop-f-test.true c.write_function.ensures

pub returns : goal.returns
returns c =
    functions_done c.args.file.now.bytes c.args.file.now.t c.args.cells.now c.args.slots.now (totals_of c.args.flags.now c.args.kept.now) c.functions-f-end.ensures c.loop-f.invariant (omega (arith, c.loop-f-test.false))
