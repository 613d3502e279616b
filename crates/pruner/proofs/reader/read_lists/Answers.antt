-- `pruner::reader::read_lists` meets its contract: one list after the other, and one law for each way.
use Rattle.pruner.proofs.Pieces.{lists-no_retval, globals_room, lists-no_globals, args_room, lists-no_args, locals_room, lists-no_locals, lists-got}
use Rattle.pruner.proofs.reader.read_lists.Goals as goal

pub read_single-requires : goal.read_single-requires
read_single-requires c = record { good = c.requires.good; room = c.requires.room }

pub returns-in_err-p : goal.returns-in_err-p
returns-in_err-p c =
    rw c.from_residual.ensures (lists-no_retval c.args.globals c.args.args c.args.locals c.read_single.ensures c.in_err-p.was)

pub read_map-requires : goal.read_map-requires
read_map-requires c =
    let h = globals_room c.args.globals c.args.args c.args.locals c.read_single.ensures c.in_ok-p.was c.requires.room in
    record { good = c.read_single.ensures.kept.good; room = h; limit_le_absent = c.requires.limits.globals_fit }

pub returns-in_err-g : goal.returns-in_err-g
returns-in_err-g c =
    rw c.from_residual-in_err-g.ensures (lists-no_globals c.args.globals c.args.args c.args.locals c.read_single.ensures c.in_ok-p.was c.read_map.ensures c.in_err-g.was)

pub read_map-requires-2 : goal.read_map-requires-2
read_map-requires-2 c =
    let h = args_room c.args.globals c.args.args c.args.locals c.read_single.ensures c.in_ok-p.was c.read_map.ensures c.in_ok-g.was c.requires.room in
    record { good = c.read_map.ensures.kept.good; room = h; limit_le_absent = c.requires.limits.args_fit }

pub returns-in_err-x : goal.returns-in_err-x
returns-in_err-x c =
    rw c.from_residual-in_err-x.ensures (lists-no_args c.args.globals c.args.args c.args.locals c.read_single.ensures c.in_ok-p.was c.read_map.ensures c.in_ok-g.was c.read_map-2.ensures c.in_err-x.was)

pub read_map-requires-3 : goal.read_map-requires-3
read_map-requires-3 c =
    let h = locals_room c.args.globals c.args.args c.args.locals c.read_single.ensures c.in_ok-p.was c.read_map.ensures c.in_ok-g.was c.read_map-2.ensures c.in_ok-x.was c.requires.room in
    record { good = c.read_map-2.ensures.kept.good; room = h; limit_le_absent = c.requires.limits.locals_fit }

pub returns-in_err-l : goal.returns-in_err-l
returns-in_err-l c =
    rw c.from_residual-in_err-l.ensures (lists-no_locals c.args.globals c.args.args c.args.locals c.read_single.ensures c.in_ok-p.was c.read_map.ensures c.in_ok-g.was c.read_map-2.ensures c.in_ok-x.was c.read_map-3.ensures c.in_err-l.was)

pub returns : goal.returns
returns c =
    lists-got c.args.globals c.args.args c.args.locals c.read_single.ensures c.in_ok-p.was c.read_map.ensures c.in_ok-g.was c.read_map-2.ensures c.in_ok-x.was c.read_map-3.ensures c.in_ok-l.was
