-- `lines::parts::write_from` meets its contract. The measure is the requirement's number: a cell names lower ones.
use native.Mathlib.Omega.{arith}
use mathlib.Core.Path.{sym}
use Rattle.lines.proofs.Writing.{fits_as, writes_as, rooms_first, rooms_then}
use Rattle.lines.proofs.Cells.{plain_is, cell_rooms, cell_writes, child_call, rest_call}
use Rattle.lines.proofs.parts.+write_from.Goals as goal

pub write_plain-requires : goal.write_plain-requires
write_plain-requires t c = fits_as (plain_is _ _ _ (omega (arith, c.if-n-le-EMPTY_PIECE.true))) c.requires.n_bound.1

pub returns-then-n-le-EMPTY_PIECE : goal.returns-then-n-le-EMPTY_PIECE
returns-then-n-le-EMPTY_PIECE t c = writes_as (sym (plain_is _ _ _ (omega (arith, c.if-n-le-EMPTY_PIECE.true)))) c.write_plain.ensures

pub byte-requires : goal.byte-requires
byte-requires t c = rooms_first (cell_rooms _ c.look-x.ensures c.opening.ensures c.requires.n_bound.1)

pub number-requires : goal.number-requires
number-requires t c =
    rooms_first (rooms_then (cell_rooms _ c.look-x.ensures c.opening.ensures c.requires.n_bound.1) c.byte.ensures)

pub byte-requires-2 : goal.byte-requires-2
byte-requires-2 t c =
    rooms_first (rooms_then (rooms_then (cell_rooms _ c.look-x.ensures c.opening.ensures c.requires.n_bound.1) c.byte.ensures) c.number.ensures)

pub write_from-requires : goal.write_from-requires
write_from-requires t c =
    child_call c.decreases c.look-x.ensures c.requires.good c.requires.n_bound.0 (rooms_first (rooms_then (rooms_then (rooms_then (cell_rooms _ c.look-x.ensures c.opening.ensures c.requires.n_bound.1) c.byte.ensures) c.number.ensures) c.byte-2.ensures))

pub write_from-requires-2 : goal.write_from-requires-2
write_from-requires-2 t c =
    rest_call c.decreases c.look-x.ensures c.requires.good c.requires.n_bound.0 (rooms_first (rooms_then (rooms_then (rooms_then (rooms_then (cell_rooms _ c.look-x.ensures c.opening.ensures c.requires.n_bound.1) c.byte.ensures) c.number.ensures) c.byte-2.ensures) c.write_from.ensures))

pub returns : goal.returns
returns t c =
    cell_writes _ c.look-x.ensures c.opening.ensures c.byte.ensures c.number.ensures c.byte-2.ensures c.write_from.ensures c.write_from-2.ensures
