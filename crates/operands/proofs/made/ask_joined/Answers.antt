-- `operands::made::ask_joined` meets its contract. The invariant: the asks from the number k on are done.
use mathlib.Core.Path.{refl}
use Prim.Native.Nat.{◌-◌}
use Rattle.operands.specs.Rows.{operands_in}
use Rattle.operands.proofs.Loops.{loop_start, loop_given, loop_full, loop_more}
use Rattle.operands.proofs.Parts.{joined_each}
use native.Mathlib.Omega.{arith}
use Rattle.operands.proofs.made.ask_joined.Goals as goal

pub loop-k-init : goal.loop-k-init
loop-k-init c =
    loop_start (joined_each (operands_in c.args.operands.now) _) c.requires c.operand-k.ensures

pub ask_whole-requires : goal.ask_whole-requires
ask_whole-requires c =
    loop_given (joined_each (operands_in c.args.operands.now) _) c.requires (c.loop-k.k - 1) (omega arith) (omega arith) c.loop-k.invariant

pub returns-in_err-ask_whole : goal.returns-in_err-ask_whole
returns-in_err-ask_whole c =
    rw c.from_residual.ensures
    (loop_full (joined_each (operands_in c.args.operands.now) _) c.requires (c.loop-k.k - 1) (omega arith) (omega arith) c.loop-k.invariant c.in_err-ask_whole.ensures refl)

pub loop-k-preserved : goal.loop-k-preserved
loop-k-preserved c =
    loop_more (joined_each (operands_in c.args.operands.now) _) c.requires (c.loop-k.k - 1) (omega arith) (omega arith) c.loop-k.invariant c.in_ok-ask_whole.ensures refl
