-- `judge::operators::fits_select` meets its contract: by what its tests say.
use borrow.Author.Rules.{rules}
use Rattle.module.specs.Decode.{expression_of}
use Rattle.clearance.specs.Judged.{every, fits_expression}
use Rattle.judge.proofs.Operands.{by-kind, select_likes}
use Rattle.judge.proofs.operators.fits_select.Goals as goal

pub returns-then-is_alike : goal.returns-then-is_alike
unfolding expression_of fits_expression every
returns-then-is_alike c =
    let likes = select_likes c.args.expression.now.row_of c.requires.kind_value in
    by-kind c.args.expression.now.row_of 18 c.requires.kind_value (search (rules, likes.0, likes.1))

pub returns-else-is_alike : goal.returns-else-is_alike
unfolding expression_of fits_expression every
returns-else-is_alike c =
    let likes = select_likes c.args.expression.now.row_of c.requires.kind_value in
    by-kind c.args.expression.now.row_of 18 c.requires.kind_value (search (rules, likes.0, likes.1))
