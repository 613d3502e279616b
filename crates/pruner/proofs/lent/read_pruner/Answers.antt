-- `pruner::lent::read_pruner` meets its contract: nothing was asked yet, no record of totals stands there, or its body tells them.
use Rattle.pruner.proofs.Telling.{flags_there, none_yet, has_yet, tells_fresh, tells_none, body_there, body_fits, tells_body}
use Rattle.pruner.proofs.lent.read_pruner.Goals as goal

pub clear_flags-requires : goal.clear_flags-requires
clear_flags-requires c = flags_there c.requires.0 c.requires.1 c.functions-n.ensures

pub returns-then-is_fresh : goal.returns-then-is_fresh
returns-then-is_fresh c =
    tells_fresh c.requires.0 c.requires.1 c.functions-n.ensures _ c.clear_flags.ensures c.args.pruner.now c.is_fresh.ensures c.if-is_fresh.true

pub returns-in_err-end : goal.returns-in_err-end
returns-in_err-end c =
    rw c.from_residual.ensures (tells_none c.requires.0 c.requires.1 c.functions-n.ensures c.args.pruner.now c.is_fresh.ensures c.if-is_fresh.false c.record_length.ensures c.in_err-end.was)

pub read_body-requires : goal.read_body-requires
read_body-requires c =
    record { has_totals = (has_yet c.requires.0 c.requires.1 c.functions-n.ensures c.clear_flags.ensures, none_yet c.requires.0 c.requires.1 c.functions-n.ensures _ c.clear_flags.ensures); in_bounds = (body_there c.requires.0 c.requires.1 c.functions-n.ensures c.args.pruner.now c.is_fresh.ensures c.if-is_fresh.false c.record_length.ensures c.in_ok-end.was, body_fits c.requires.0 c.requires.1 c.functions-n.ensures c.args.pruner.now c.is_fresh.ensures c.if-is_fresh.false c.record_length.ensures c.in_ok-end.was) }

pub returns : goal.returns
returns c =
    tells_body c.requires.0 c.requires.1 c.functions-n.ensures c.args.pruner.now c.is_fresh.ensures c.if-is_fresh.false c.record_length.ensures c.in_ok-end.was c.read_body.ensures
