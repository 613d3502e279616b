-- `lines::parts::write_plain` meets its contract.
use mathlib.Core.Path.{sym}
use Rattle.lines.proofs.Writing.{fits_as, writes_as}
use Rattle.lines.proofs.Cells.{plain_whole, plain_end}
use Rattle.lines.proofs.parts.write_plain.Goals as goal

pub write_whole-requires : goal.write_whole-requires
write_whole-requires c = fits_as (plain_whole _ c.if-whole.true) c.requires

pub returns-then-whole : goal.returns-then-whole
returns-then-whole c = writes_as (sym (plain_whole _ c.if-whole.true)) c.write_whole.ensures

pub byte-requires : goal.byte-requires
byte-requires c = fits_as (plain_end _ c.if-whole.false) c.requires

pub returns : goal.returns
returns c = writes_as (sym (plain_end _ c.if-whole.false)) c.byte.ensures
