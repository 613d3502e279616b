-- `judge::indexes::fits_index` meets its contract: by the kind of index.
use borrow.Author.Rules.{rules}
use Rattle.judge.proofs.IndexRows.{fits_access, fits_constant}
use Rattle.judge.proofs.indexes.fits_index.Goals as goal

pub returns-then-is_value : goal.returns-then-is_value
returns-then-is_value c =
    fits_access c.args.expression.now.row_of c.requires.le_kind c.requires.kind_bound (search rules) c.fits_base-fits.ensures (search rules)

pub returns-else-is_value : goal.returns-else-is_value
returns-else-is_value c =
    fits_access c.args.expression.now.row_of c.requires.le_kind c.requires.kind_bound (search rules) c.fits_base-fits.ensures (search rules)

pub returns-in_default : goal.returns-in_default
returns-in_default c =
    fits_constant c.args.expression.now.row_of c.requires.le_kind c.requires.kind_bound (search rules) c.fits_base-fits.ensures
