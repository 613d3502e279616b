-- `module::operands::operand` meets its contract.
use Rattle.module.specs.Operands.{taken}
use Rattle.module.specs.Packed.{meant}
use Rattle.module.specs.Scan.{class_taken}
use Rattle.module.proofs.Shaped.{stamped_on}
use native.Mathlib.Nat.{le_refl}
use Rattle.module.proofs.operands.operand.Goals as goal

pub returns-in_default-clause-took : goal.returns-in_default-clause-took
unfolding class_taken
returns-in_default-clause-took c = rw c.in_default.is

pub returns-in-Cases-clause-took : goal.returns-in-Cases-clause-took
unfolding class_taken meant taken
returns-in-Cases-clause-took c = rw (c.in-Some.is, c.in-Cases.is) c.cases.ensures.took

pub returns-in_default-operand : goal.returns-in_default-operand
unfolding class_taken
returns-in_default-operand c =
    record { took = rw c.in-Some.is c.plain.ensures.took; ends = c.plain.ensures.ends; stamped = stamped_on c.requires.fresh (le_refl _) }
