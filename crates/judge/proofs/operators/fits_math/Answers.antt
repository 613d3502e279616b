-- `judge::operators::fits_math` meets its contract: by what its tests say.
use borrow.Author.Rules.{rules}
use Rattle.module.specs.Decode.{expression_of}
use Rattle.clearance.specs.Judged.{fits_expression}
use Rattle.judge.proofs.Operands.{by-kind}
use Rattle.judge.proofs.operators.fits_math.Goals as goal

pub returns-then-maybe_value-2 : goal.returns-then-maybe_value-2
unfolding expression_of fits_expression
returns-then-maybe_value-2 c = by-kind c.args.expression.now.row_of 21 c.requires.kind_value (search rules)

pub returns-else-maybe_value-2 : goal.returns-else-maybe_value-2
unfolding expression_of fits_expression
returns-else-maybe_value-2 c = by-kind c.args.expression.now.row_of 21 c.requires.kind_value (search rules)
