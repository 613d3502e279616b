-- `operands::load::ask_indexes` meets its contract. The invariant: the indexes after those of h are asked.
use mathlib.Core.Path.{refl}
use Rattle.part.proofs.Pieces.{part-0}
use Rattle.operands.proofs.Lists.{value_given, value_all, all_piece}
use Rattle.operands.proofs.Loads.{left_start, left_constant, left_given, left_full, left_dynamic}
use Rattle.operands.proofs.load.ask_indexes.Goals as goal

pub loop-base-init : goal.loop-base-init
loop-base-init c = left_start c.args.pointer.now c.requires

pub loop-base-preserved-in-Constant : goal.loop-base-preserved-in-Constant
loop-base-preserved-in-Constant c =
    left_constant c.args.pointer.now c.requires c.loop-base.invariant c.step_down.ensures c.in-Constant.is

pub ask_value-requires : goal.ask_value-requires
ask_value-requires c =
    value_given (left_given c.args.pointer.now c.requires c.loop-base.invariant c.step_down.ensures c.in-Dynamic.is) refl 0 (part-0 _) (all_piece (left_given c.args.pointer.now c.requires c.loop-base.invariant c.step_down.ensures c.in-Dynamic.is))

pub returns-in_err-ask_value-in-Dynamic : goal.returns-in_err-ask_value-in-Dynamic
returns-in_err-ask_value-in-Dynamic c =
    rw c.from_residual.ensures
    (left_full c.args.pointer.now c.requires c.loop-base.invariant c.step_down.ensures c.in-Dynamic.is (value_all (left_given c.args.pointer.now c.requires c.loop-base.invariant c.step_down.ensures c.in-Dynamic.is) refl 0 (part-0 _) c.in_err-ask_value-in-Dynamic.ensures) refl)

pub loop-base-preserved : goal.loop-base-preserved
loop-base-preserved c =
    left_dynamic c.args.pointer.now c.requires c.loop-base.invariant c.step_down.ensures c.in-Dynamic.is (value_all (left_given c.args.pointer.now c.requires c.loop-base.invariant c.step_down.ensures c.in-Dynamic.is) refl 0 (part-0 _) c.in_ok-ask_value-in-Dynamic.ensures) refl
