-- `place::steps::step_down` meets its contract: by the kind.
use mathlib.Core.Path.{refl}
use borrow.Author.Rules.{rules}
use Rattle.place.proofs.Stepping.{step_local, step_global, constant_base, dynamic_base, step_constant, step_dynamic}
use Rattle.place.proofs.pointer.PointerExpression.step_down.Goals as goal

pub invariant_of-base : goal.invariant_of-base
invariant_of-base c =
    record { pointer = constant_base c.args.self.now c.expression-row.ensures c.expression_operand-e.ensures (search rules) }

pub invariant_of-base-in-Ok-Access : goal.invariant_of-base-in-Ok-Access
invariant_of-base-in-Ok-Access c =
    record { pointer = dynamic_base c.args.self.now c.expression-row.ensures c.expression_operand-e-in-Ok-Access.ensures (search rules) }

pub returns-in-Ok-AccessIndex : goal.returns-in-Ok-AccessIndex
returns-in-Ok-AccessIndex c =
    step_constant c.args.self.now c.expression-row.ensures _ refl c.expression_operand-e.ensures c.operand.ensures (search rules)

pub returns-in-Ok-Access : goal.returns-in-Ok-Access
returns-in-Ok-Access c =
    step_dynamic c.args.self.now c.expression-row.ensures _ refl c.expression_operand-e-in-Ok-Access.ensures c.expression_operand.ensures (search rules)

pub returns-in-Ok-LocalVariable : goal.returns-in-Ok-LocalVariable
returns-in-Ok-LocalVariable c = step_local c.args.self.now c.expression-row.ensures c.operand-in-Ok-LocalVariable.ensures (search rules)

pub returns-in_default : goal.returns-in_default
returns-in_default c =
    step_global c.args.self.now c.expression-row.ensures c.operand-in_default.ensures (search rules) (search rules) (search rules)
