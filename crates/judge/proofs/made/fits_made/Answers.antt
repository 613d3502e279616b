-- `judge::made::fits_made` meets its contract: by the kind.
use borrow.Author.Rules.{rules}
use Rattle.judge.proofs.Components.{fits_splat}
use Rattle.judge.proofs.made.fits_made.Goals as goal

pub returns-then-eq : goal.returns-then-eq
returns-then-eq c = fits_splat c.args.expression.now.row_of (search rules) (search rules)

pub returns-else-eq : goal.returns-else-eq
returns-else-eq c = fits_splat c.args.expression.now.row_of (search rules) (search rules)
