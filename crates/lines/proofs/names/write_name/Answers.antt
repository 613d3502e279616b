-- `lines::names::write_name` meets its contract.
use Rattle.lines.proofs.Writing.{fits_as, writes_as}
use mathlib.Core.Path.{sym}
use Rattle.lines.proofs.names.write_name.Goals as goal

pub word-requires : goal.word-requires
word-requires c = fits_as (sym c.name.ensures) c.requires

pub returns : goal.returns
returns c = writes_as c.name.ensures c.word.ensures
