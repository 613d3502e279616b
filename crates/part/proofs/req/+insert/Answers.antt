-- `insert` meets its contract. The measure is the map's number.
use native.Mathlib.Omega.{arith}
use Rattle.part.proofs.Making.{inserted_end, inserted_before, inserted_at, inserted_after}
use Rattle.part.proofs.req.+insert.Goals as goal

pub returns-then-m-le-EMPTY_PIECE : goal.returns-then-m-le-EMPTY_PIECE
returns-then-m-le-EMPTY_PIECE t c =
    inserted_end (c.requires.good, (c.requires.m_bound, c.requires.room)) (omega (arith, c.if-m-le-EMPTY_PIECE.true)) c.make.ensures

pub returns-then-i-x : goal.returns-then-i-x
returns-then-i-x t c =
    inserted_before (c.requires.good, (c.requires.m_bound, c.requires.room)) c.look-x.ensures c.if-i-x.true c.make-then-i-x.ensures

pub returns-then-i-x-2 : goal.returns-then-i-x-2
returns-then-i-x-2 t c =
    inserted_at (c.requires.good, (c.requires.m_bound, c.requires.room)) c.look-x.ensures c.if-i-x-2.true c.remake.ensures

pub returns : goal.returns
returns t c =
    inserted_after (c.requires.good, (c.requires.m_bound, c.requires.room)) c.look-x.ensures c.if-i-x.false c.if-i-x-2.false c.insert-r.ensures c.remake-2.ensures
