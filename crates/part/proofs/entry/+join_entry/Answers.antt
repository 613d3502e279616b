-- `join_entry` meets its contract. The measure is the map's number.
use native.Mathlib.Omega.{arith}
use Rattle.part.proofs.Entries.{entry_all, entry_end, entry_before, entry_after, entry_joins, entry_rests, entry_remakes_at, entry_at}
use Rattle.part.proofs.entry.+join_entry.Goals as goal

pub returns-then-m-eq-ALL_PIECE : goal.returns-then-m-eq-ALL_PIECE
returns-then-m-eq-ALL_PIECE t c = entry_all (c.requires.good, (c.requires.m_bound, c.requires.room)) _ c.if-m-eq-ALL_PIECE.true

pub returns-then-m-le-EMPTY_PIECE : goal.returns-then-m-le-EMPTY_PIECE
returns-then-m-le-EMPTY_PIECE t c =
    entry_end (c.requires.good, (c.requires.m_bound, c.requires.room)) c.if-m-eq-ALL_PIECE.false (omega (arith, c.if-m-le-EMPTY_PIECE.true)) c.make.ensures

pub returns-then-i-x : goal.returns-then-i-x
returns-then-i-x t c =
    entry_before (c.requires.good, (c.requires.m_bound, c.requires.room)) c.look-x.ensures c.if-i-x.true c.make-then-i-x.ensures

pub returns-then-x-i : goal.returns-then-x-i
returns-then-x-i t c =
    entry_after (c.requires.good, (c.requires.m_bound, c.requires.room)) c.look-x.ensures c.if-x-i.true c.join_entry-r.ensures c.remake.ensures

pub join-c-requires : goal.join-c-requires
join-c-requires t c =
    let q9 = entry_joins (c.requires.good, (c.requires.m_bound, c.requires.room)) c.look-x.ensures in
    record { good = q9.0; a_bound = q9.1.0; room = q9.1.1 }

pub join-r-requires : goal.join-r-requires
join-r-requires t c =
    let q9 = entry_rests (c.requires.good, (c.requires.m_bound, c.requires.room)) c.look-x.ensures c.join-c.ensures in
    record { good = q9.0; a_bound = q9.1.0; room = q9.1.1 }

pub remake-requires-2 : goal.remake-requires-2
remake-requires-2 t c =
    let q9 = entry_remakes_at (c.requires.good, (c.requires.m_bound, c.requires.room)) c.look-x.ensures c.join-c.ensures c.join-r.ensures in
    record { good = q9.0; room = q9.1.0; child_bound = q9.1.1.0; holds = q9.1.1.1 }

pub returns : goal.returns
returns t c =
    entry_at (c.requires.good, (c.requires.m_bound, c.requires.room)) c.look-x.ensures c.join-c.ensures c.join-r.ensures c.if-x-i.false c.if-i-x.false c.remake-2.ensures
