-- `pruner::buffer::read_body` meets its contract: the globals, the functions, and nothing left over.
use Rattle.pruner.proofs.Pieces.{piece_placed}
use Rattle.pruner.proofs.Body.{few_globals, body_no_globals, body_many_globals, body_has, body_none, body_room, body_no_functions, body_ends}
use native.Mathlib.Omega.{arith}
use Rattle.std.proofs.lemmas.List.{take_rest}
use Rattle.pruner.proofs.buffer.read_body.Goals as goal

pub read_map-requires : goal.read_map-requires
read_map-requires c =
    record { good = c.requires.has_totals.0.memory.good; room = rw (take_rest c.args.pruner.now 6) (omega (arith, c.requires.in_bounds.1)); limit_le_absent = few_globals c.args.file.now.bytes c.args.file.now.t c.requires.has_totals.0.was_read c.globals-n.ensures }

pub returns-in_err-g : goal.returns-in_err-g
returns-in_err-g c =
    rw c.from_residual.ensures (body_no_globals c.args.file.now.bytes c.args.file.now.t c.requires.has_totals.0.was_read c.globals-n.ensures c.args.slots.now c.args.pruner.now (rw (take_rest c.args.pruner.now 6) at c.read_map.ensures) c.in_err-g.was)

pub entries-count-requires : goal.entries-count-requires
entries-count-requires c =
    record { good = (rw (take_rest c.args.pruner.now 6) at c.read_map.ensures).kept.good; n_bound = (piece_placed (rw (take_rest c.args.pruner.now 6) at c.read_map.ensures) c.in_ok-g.was).0 }

pub returns-then-count-gt-MAX_PIECES : goal.returns-then-count-gt-MAX_PIECES
returns-then-count-gt-MAX_PIECES c =
    body_many_globals c.args.file.now.bytes c.args.file.now.t c.requires.has_totals.0.was_read c.globals-n.ensures c.args.slots.now c.args.pruner.now (rw (take_rest c.args.pruner.now 6) at c.read_map.ensures) c.in_ok-g.was c.entries-count.ensures c.if-count-gt-MAX_PIECES.true

pub read_functions-requires : goal.read_functions-requires
read_functions-requires c =
    let r = body_room c.args.file.now.bytes c.args.file.now.t c.requires.has_totals.0.was_read c.globals-n.ensures c.args.slots.now c.args.pruner.now (rw (take_rest c.args.pruner.now 6) at c.read_map.ensures) c.in_ok-g.was c.entries-count.ensures (omega (arith, c.if-count-gt-MAX_PIECES.false)) c.requires.has_totals.0.memory c.requires.in_bounds.1 in
    record { has_totals = (body_has c.args.file.now.bytes c.args.file.now.t c.requires.has_totals.0.was_read c.globals-n.ensures c.args.slots.now c.args.pruner.now (rw (take_rest c.args.pruner.now 6) at c.read_map.ensures) c.in_ok-g.was c.entries-count.ensures (omega (arith, c.if-count-gt-MAX_PIECES.false)) c.requires.has_totals.0.memory c.requires.has_totals.0, body_none c.args.file.now.bytes c.args.file.now.t c.requires.has_totals.0.was_read c.globals-n.ensures c.args.slots.now c.args.pruner.now (rw (take_rest c.args.pruner.now 6) at c.read_map.ensures) c.in_ok-g.was c.entries-count.ensures (omega (arith, c.if-count-gt-MAX_PIECES.false)) c.requires.has_totals.0.memory c.requires.has_totals.1); room = (r, omega (arith, c.if-count-gt-MAX_PIECES.false)) }

pub returns-in_err-left : goal.returns-in_err-left
returns-in_err-left c =
    rw c.from_residual-in_err-left.ensures (body_no_functions c.args.file.now.bytes c.args.file.now.t c.requires.has_totals.0.was_read c.globals-n.ensures c.args.slots.now c.args.pruner.now (rw (take_rest c.args.pruner.now 6) at c.read_map.ensures) c.in_ok-g.was c.entries-count.ensures (omega (arith, c.if-count-gt-MAX_PIECES.false)) c.requires.has_totals.0.memory c.read_functions.ensures c.in_err-left.was)

pub returns : goal.returns
returns c =
    rw c.then_some.ensures (body_ends c.args.file.now.bytes c.args.file.now.t c.requires.has_totals.0.was_read c.globals-n.ensures c.args.slots.now c.args.pruner.now (rw (take_rest c.args.pruner.now 6) at c.read_map.ensures) c.in_ok-g.was c.entries-count.ensures (omega (arith, c.if-count-gt-MAX_PIECES.false)) c.requires.has_totals.0.memory c.read_functions.ensures c.in_ok-left.was c.ends.ensures)
