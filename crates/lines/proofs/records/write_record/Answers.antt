-- `lines::records::write_record` meets its contract.
use mathlib.Core.Path.{sym}
use Rattle.lines.proofs.Writing.{fits_as, writes_as}
use Rattle.lines.proofs.Rows.{no_record, record_line, writes_none}
use native.Mathlib.Omega.{arith}
use Rattle.lines.proofs.records.write_record.Goals as goal

pub returns-then-p-le-EMPTY_PIECE : goal.returns-then-p-le-EMPTY_PIECE
returns-then-p-le-EMPTY_PIECE c = writes_none (no_record _ _ _ (omega (arith, c.if-p-le-EMPTY_PIECE.true)))

pub write_line-requires : goal.write_line-requires
write_line-requires c =
    record { good = c.requires.good; p_bound = (omega (arith, c.look-x.ensures.child_low, c.requires.p_bound.0), fits_as (record_line c.args.e.0 c.look-x.ensures) c.requires.p_bound.1) }

pub returns : goal.returns
returns c = writes_as (sym (record_line c.args.e.0 c.look-x.ensures)) c.write_line.ensures
