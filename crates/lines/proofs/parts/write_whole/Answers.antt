-- `lines::parts::write_whole` meets its contract.
use mathlib.Core.Path.{sym}
use native.Mathlib.Omega.{arith}
use Rattle.lines.proofs.Writing.{fits_as, writes_as}
use Rattle.lines.proofs.Cells.{whole_all, whole_exist, whole_none}
use Rattle.lines.proofs.parts.write_whole.Goals as goal

pub word-requires : goal.word-requires
word-requires c = fits_as (whole_all c.in-0.is) c.requires

pub returns-in-0 : goal.returns-in-0
returns-in-0 c = writes_as (sym (whole_all c.in-0.is)) c.word.ensures

pub word-requires-in-1 : goal.word-requires-in-1
word-requires-in-1 c = fits_as (whole_exist c.in-1.is) c.requires

pub returns-in-1 : goal.returns-in-1
returns-in-1 c = writes_as (sym (whole_exist c.in-1.is)) c.word-in-1.ensures

pub word-requires-in_default : goal.word-requires-in_default
word-requires-in_default c = fits_as (whole_none (λ e. absurd (omega arith)) (λ e. absurd (omega arith))) c.requires

pub returns-in_default : goal.returns-in_default
returns-in_default c = writes_as (sym (whole_none (λ e. absurd (omega arith)) (λ e. absurd (omega arith)))) c.word-in_default.ensures
