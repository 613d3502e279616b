-- `lines::required::write_required` meets its contract.
use mathlib.Core.Path.{sym}
use Rattle.lines.proofs.Writing.{fits_as, writes_as}
use Rattle.lines.proofs.Whole.{required_yes, required_no}
use Rattle.lines.proofs.required.write_required.Goals as goal

pub word-requires : goal.word-requires
word-requires c = fits_as (required_yes c.if-required.true) c.requires

pub returns-then-required : goal.returns-then-required
returns-then-required c = writes_as (sym (required_yes c.if-required.true)) c.word.ensures

pub word-requires-2 : goal.word-requires-2
word-requires-2 c = fits_as (required_no c.if-required.false) c.requires

pub returns : goal.returns
returns c = writes_as (sym (required_no c.if-required.false)) c.word-2.ensures
