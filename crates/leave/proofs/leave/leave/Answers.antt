-- `leave` meets its contract.
use mathlib.Core.Path.{ap, ◌∙◌}
use native.Mathlib.Omega.{arith}
use lib.ListN.{length}
use Rattle.leave.proofs.Leaving.{forget_fit, left_is, left_long, forgot_long, cleared_long}
use Rattle.leave.proofs.leave.leave.Goals as goal

pub forget-requires : goal.forget-requires
forget-requires c = forget_fit c.records_of-own.ensures _ _ c.requires.0

pub clear_context-requires : goal.clear_context-requires
clear_context-requires c =
    omega (arith, forgot_long c.args.slots.now c.forget.new.slots 4 _ _ _ c.forget.ensures, c.requires.1)

pub clear_context-requires-2 : goal.clear_context-requires-2
clear_context-requires-2 c =
    omega (arith, forgot_long c.args.slots.now c.forget.new.slots 4 _ _ _ c.forget.ensures, cleared_long c.forget.new.slots c.clear_context.new.slots c.args.base c.clear_context.ensures, c.requires.2)

pub shape_of-slots : goal.shape_of-slots
shape_of-slots c =
    ap length (left_is c.records_of-own.ensures c.args.slots.now _ _ _ c.args.base c.args.at c.forget.ensures c.clear_context.ensures c.clear_context-2.ensures) ∙ left_long c.args.file.now.t c.args.slots.now c.args.f.0 c.args.base c.args.at

pub returns : goal.returns
returns c =
    left_is c.records_of-own.ensures c.args.slots.now _ _ _ c.args.base c.args.at c.forget.ensures c.clear_context.ensures c.clear_context-2.ensures
