-- `lines::contexts::write_retval` meets its contract.
use mathlib.Core.Path.{sym}
use Rattle.lines.proofs.Writing.{writes_then, writes_as, rooms_first, rooms_then}
use Rattle.lines.proofs.Rows.{no_retval, retval_line, retval_rooms, writes_none}
use native.Mathlib.Omega.{arith}
use Rattle.lines.proofs.contexts.write_retval.Goals as goal

pub returns-then-map-le-EMPTY_PIECE : goal.returns-then-map-le-EMPTY_PIECE
returns-then-map-le-EMPTY_PIECE c = writes_none (no_retval _ _ (omega (arith, c.if-map-le-EMPTY_PIECE.true)))

pub word-requires : goal.word-requires
word-requires c = rooms_first (retval_rooms c.look-x.ensures c.requires.map_bound.1)

pub write_part-requires : goal.write_part-requires
write_part-requires c =
    record { good = c.requires.good; n_bound = (omega (arith, c.look-x.ensures.child_low, c.requires.map_bound.0), rooms_first (rooms_then (retval_rooms c.look-x.ensures c.requires.map_bound.1) c.word.ensures)) }

pub byte-requires : goal.byte-requires
byte-requires c =
    rooms_first (rooms_then (rooms_then (retval_rooms c.look-x.ensures c.requires.map_bound.1) c.word.ensures) c.write_part.ensures)

pub returns : goal.returns
returns c =
    writes_as (sym (retval_line c.look-x.ensures)) (writes_then c.word.ensures (writes_then c.write_part.ensures c.byte.ensures))
