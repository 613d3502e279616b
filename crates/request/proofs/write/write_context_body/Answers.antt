-- `request::write::write_context_body` meets its contract: one list after the other.
use Rattle.request.proofs.Writing.{return_fits, globals_fit, args_fit, locals_fit, lists_write}
use Rattle.request.proofs.write.write_context_body.Goals as goal

pub write_return-requires : goal.write_return-requires
write_return-requires c =
    record { good = c.requires.good; n_bound = c.requires.has_context.retval; fits = return_fits c.args.cells.now c.args.c c.args.writer.now c.requires.fits }

pub write_variables-requires : goal.write_variables-requires
write_variables-requires c =
    record { good = c.requires.good; n_bound = c.requires.has_context.globals; fits = globals_fit c.args.cells.now c.args.c c.args.writer.now c.requires.fits c.write_return.ensures }

pub write_variables-requires-2 : goal.write_variables-requires-2
write_variables-requires-2 c =
    record { good = c.requires.good; n_bound = c.requires.has_context.args; fits = args_fit c.args.cells.now c.args.c c.args.writer.now c.requires.fits c.write_return.ensures c.write_variables.ensures }

pub write_variables-requires-3 : goal.write_variables-requires-3
write_variables-requires-3 c =
    record { good = c.requires.good; n_bound = c.requires.has_context.locals; fits = locals_fit c.args.cells.now c.args.c c.args.writer.now c.requires.fits c.write_return.ensures c.write_variables.ensures c.write_variables-2.ensures }

pub returns : goal.returns
returns c =
    lists_write c.args.cells.now c.args.c c.args.writer.now c.requires.fits c.write_return.ensures c.write_variables.ensures c.write_variables-2.ensures c.write_variables-3.ensures
