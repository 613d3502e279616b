-- `operands::made::ask_components` meets its contract. The invariant: the asks from the number k on are done.
use mathlib.Core.Path.{refl}
use Prim.Native.Nat.{◌-◌}
use Rattle.operands.specs.Rows.{operands_in}
use Rattle.operands.proofs.Loops.{loop_start, loop_given, loop_full, loop_more}
use Rattle.operands.proofs.Parts.{components-each}
use native.Mathlib.Omega.{arith}
use Rattle.operands.proofs.made.ask_components.Goals as goal

pub loop-k-init : goal.loop-k-init
loop-k-init c =
    loop_start (components-each (operands_in c.args.operands.now) _) c.requires c.operand-k.ensures

pub ask_component-requires : goal.ask_component-requires
ask_component-requires c =
    record { list_given = loop_given (components-each (operands_in c.args.operands.now) _) c.requires (c.loop-k.k - 1) (omega arith) (omega arith) c.loop-k.invariant; k_bound = omega arith }

pub returns-in_err-ask_component : goal.returns-in_err-ask_component
returns-in_err-ask_component c =
    rw c.from_residual.ensures
    (loop_full (components-each (operands_in c.args.operands.now) _) c.requires (c.loop-k.k - 1) (omega arith) (omega arith) c.loop-k.invariant c.in_err-ask_component.ensures refl)

pub loop-k-preserved : goal.loop-k-preserved
loop-k-preserved c =
    loop_more (components-each (operands_in c.args.operands.now) _) c.requires (c.loop-k.k - 1) (omega arith) (omega arith) c.loop-k.invariant c.in_ok-ask_component.ensures refl
