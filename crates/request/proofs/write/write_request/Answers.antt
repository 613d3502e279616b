-- `request::write::write_request` meets its contract: the body, then the header and the function before it.
use native.Mathlib.Omega.{arith}
use borrow.Author.Rules.{rules}
use mathlib.Core.Path.{refl, ◌∙◌}
use lib.ListN.{length-set}
use Rattle.request.proofs.RequestBytes.{return_fits, globals_fit, head_room, head_long, end_is, request_written}
use Rattle.request.proofs.write.write_request.Goals as goal

pub write_return-requires : goal.write_return-requires
write_return-requires c =
    record { good = c.requires.good; n_bound = c.requires.retval_bound.0; fits = return_fits c.args.cells.now c.args.out.now c.args.function.0 c.args.retval c.args.globals c.requires.globals_in_bounds.0 }

pub write_variables-requires : goal.write_variables-requires
write_variables-requires c =
    record { good = c.requires.good; n_bound = c.requires.retval_bound.1; fits = globals_fit c.args.cells.now c.args.out.now c.args.function.0 c.args.retval c.args.globals c.requires.globals_in_bounds.0 refl refl c.write_return.ensures }

pub bounds-writer-0 : goal.bounds-writer-0
bounds-writer-0 c = omega (arith, head_room c.args.cells.now c.args.out.now c.args.function.0 c.args.retval c.args.globals c.requires.globals_in_bounds.0 refl refl c.write_return.ensures c.write_variables.ensures)

pub bounds-writer-1 : goal.bounds-writer-1
bounds-writer-1 c = simp length-set (omega (arith, head_room c.args.cells.now c.args.out.now c.args.function.0 c.args.retval c.args.globals c.requires.globals_in_bounds.0 refl refl c.write_return.ensures c.write_variables.ensures))

pub overflow_cast-end : goal.overflow_cast-end
overflow_cast-end c = omega (arith, end_is c.args.cells.now c.args.out.now c.args.function.0 c.args.retval c.args.globals c.requires.globals_in_bounds.0 refl refl c.write_return.ensures c.write_variables.ensures, c.requires.globals_in_bounds.1)

pub write-requires : goal.write-requires
write-requires c = simp length-set (omega (arith, head_room c.args.cells.now c.args.out.now c.args.function.0 c.args.retval c.args.globals c.requires.globals_in_bounds.0 refl refl c.write_return.ensures c.write_variables.ensures))

pub write-requires-2 : goal.write-requires-2
write-requires-2 c = omega (arith, head_long c.args.cells.now c.args.out.now c.args.function.0 c.args.retval c.args.globals c.requires.globals_in_bounds.0 refl refl c.write_return.ensures c.write_variables.ensures c.write.ensures)

pub returns : goal.returns
returns c =
    (search rules ∙ request_written c.args.cells.now c.args.out.now c.args.function.0 c.args.retval c.args.globals c.requires.globals_in_bounds.0 refl refl c.write_return.ensures c.write_variables.ensures c.requires.globals_in_bounds.1 c.write.ensures c.field_of.ensures c.write-2.ensures, end_is c.args.cells.now c.args.out.now c.args.function.0 c.args.retval c.args.globals c.requires.globals_in_bounds.0 refl refl c.write_return.ensures c.write_variables.ensures)
