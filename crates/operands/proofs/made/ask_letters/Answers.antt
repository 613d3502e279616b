-- `operands::made::ask_letters` meets its contract. The invariant: the asks from the number k on are done.
use mathlib.Core.Path.{refl}
use Prim.Native.Nat.{◌-◌}
use Rattle.operands.specs.Rows.{operands_in}
use Rattle.operands.proofs.Loops.{loop_start, loop_given, loop_full, loop_more}
use Rattle.operands.proofs.Parts.{letters-each}
use native.Mathlib.Omega.{arith}
use Rattle.operands.proofs.made.ask_letters.Goals as goal

pub loop-k-init : goal.loop-k-init
loop-k-init c =
    loop_start (letters-each (operands_in c.args.operands.now) _) c.requires.list_given c.operand-k.ensures

pub ask_letter-requires : goal.ask_letter-requires
ask_letter-requires c =
    record { list_given = loop_given (letters-each (operands_in c.args.operands.now) _) c.requires.list_given (c.loop-k.k - 1) (omega arith) (omega arith) c.loop-k.invariant; k_bound = omega arith }

pub returns-in_err-ask_letter : goal.returns-in_err-ask_letter
returns-in_err-ask_letter c =
    rw c.from_residual.ensures
    (loop_full (letters-each (operands_in c.args.operands.now) _) c.requires.list_given (c.loop-k.k - 1) (omega arith) (omega arith) c.loop-k.invariant c.in_err-ask_letter.ensures refl)

pub loop-k-preserved : goal.loop-k-preserved
loop-k-preserved c =
    loop_more (letters-each (operands_in c.args.operands.now) _) c.requires.list_given (c.loop-k.k - 1) (omega arith) (omega arith) c.loop-k.invariant c.in_ok-ask_letter.ensures refl
