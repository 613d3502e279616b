-- `lines::contexts::write_context` meets its contract.
use Rattle.lines.proofs.Writing.{rooms_first, rooms_then}
use Rattle.lines.proofs.Whole.{context_rooms, context_writes}
use Rattle.lines.proofs.contexts.write_context.Goals as goal

pub write_variables-requires : goal.write_variables-requires
write_variables-requires c =
    record { good = c.requires.good; map_bound = (c.requires.globals_bound.0, rooms_first (context_rooms c.args.cells.now c.args.c c.requires.globals_bound.4)) }

pub write_retval-requires : goal.write_retval-requires
write_retval-requires c =
    record { good = c.requires.good; map_bound = (c.requires.globals_bound.3, rooms_first (rooms_then (context_rooms c.args.cells.now c.args.c c.requires.globals_bound.4) c.write_variables.ensures)) }

pub write_variables-requires-2 : goal.write_variables-requires-2
write_variables-requires-2 c =
    record { good = c.requires.good; map_bound = (c.requires.globals_bound.2, rooms_first (rooms_then (rooms_then (context_rooms c.args.cells.now c.args.c c.requires.globals_bound.4) c.write_variables.ensures) c.write_retval.ensures)) }

pub write_variables-requires-3 : goal.write_variables-requires-3
write_variables-requires-3 c =
    record { good = c.requires.good; map_bound = (c.requires.globals_bound.1, rooms_first (rooms_then (rooms_then (rooms_then (context_rooms c.args.cells.now c.args.c c.requires.globals_bound.4) c.write_variables.ensures) c.write_retval.ensures) c.write_variables-2.ensures)) }

pub returns : goal.returns
returns c =
    context_writes c.args.cells.now c.args.c c.write_variables.ensures c.write_retval.ensures c.write_variables-2.ensures c.write_variables-3.ensures
