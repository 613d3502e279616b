-- `lines::own_marks::write_mark` meets its contract.
use mathlib.Core.Path.{sym}
use Rattle.lines.proofs.Writing.{fits_as, writes_as}
use Rattle.lines.proofs.Own.{mark_no, mark_yes}
use Rattle.lines.proofs.own_marks.write_mark.Goals as goal

pub word-requires : goal.word-requires
word-requires c = fits_as (mark_no c.if-b-eq0.true) c.requires

pub returns-then-b-eq0 : goal.returns-then-b-eq0
returns-then-b-eq0 c = writes_as (sym (mark_no c.if-b-eq0.true)) c.word.ensures

pub word-requires-2 : goal.word-requires-2
word-requires-2 c = fits_as (mark_yes c.if-b-eq0.false) c.requires

pub returns : goal.returns
returns c = writes_as (sym (mark_yes c.if-b-eq0.false)) c.word-2.ensures
