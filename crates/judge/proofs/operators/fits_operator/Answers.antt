-- `judge::operators::fits_operator` meets its contract: by the kind.
use borrow.Author.Rules.{rules}
use mathlib.Core.Path.{refl}
use Rattle.module.specs.Decode.{expression_of}
use Rattle.clearance.specs.Judged.{fits_expression}
use Rattle.judge.proofs.Operands.{by-kind, unary_fits}
use Rattle.judge.proofs.operators.fits_operator.Goals as goal

pub returns-then-is_value : goal.returns-then-is_value
unfolding expression_of fits_expression
returns-then-is_value c = by-kind c.args.expression.now.row_of 20 (search rules) (search rules)

pub returns-else-is_value : goal.returns-else-is_value
unfolding expression_of fits_expression
returns-else-is_value c = by-kind c.args.expression.now.row_of 20 (search rules) (search rules)

pub returns-then-is_value-3 : goal.returns-then-is_value-3
unfolding expression_of fits_expression
returns-then-is_value-3 c = by-kind c.args.expression.now.row_of 17 (search rules) (search rules)

pub returns-else-is_value-3 : goal.returns-else-is_value-3
unfolding expression_of fits_expression
returns-else-is_value-3 c = by-kind c.args.expression.now.row_of 17 (search rules) (search rules)

pub returns-then-is_value-5 : goal.returns-then-is_value-5
returns-then-is_value-5 c = unary_fits c.args.expression.now.row_of (search rules) (λ l. search (rules, l))

pub returns-else-is_value-5 : goal.returns-else-is_value-5
returns-else-is_value-5 c = unary_fits c.args.expression.now.row_of (search rules) (λ l. search (rules, l))

pub returns-in_default : goal.returns-in_default
unfolding expression_of fits_expression
returns-in_default c = by-kind c.args.expression.now.row_of 19 (search rules) refl
