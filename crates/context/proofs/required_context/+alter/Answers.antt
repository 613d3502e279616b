-- `context::required_context::alter` meets its contract. The measure is the map's number.
use Rattle.context.proofs.Alter.{plain_done, gone_done, rest_asks, rest_panics, rest_remake, rest_done, entry-asks, entry_panics, entry_remake, entry_done}
use mathlib.Core.Path.{refl}
use native.Mathlib.Omega.{arith}
use Rattle.context.proofs.required_context.+alter.Goals as goal

pub returns-then-m-le-EMPTY_PIECE : goal.returns-then-m-le-EMPTY_PIECE
returns-then-m-le-EMPTY_PIECE t c =
    plain_done _ c.args.i c.args.t.0 (c.requires.good, (c.requires.m_bound, c.requires.room)) (omega (arith, c.if-m-le-EMPTY_PIECE.true))

pub returns-then-i-x : goal.returns-then-i-x
returns-then-i-x t c =
    gone_done _ c.args.i c.args.t.0 (c.requires.good, (c.requires.m_bound, c.requires.room)) c.look-x.ensures c.if-i-x.true

pub alter-requires : goal.alter-requires
alter-requires t c =
    rest_asks (c.requires.good, (c.requires.m_bound, c.requires.room)) c.look-x.ensures c.decreases

pub returns-in_err-r : goal.returns-in_err-r
returns-in_err-r t c =
    rw c.from_residual.ensures (rest_panics _ c.args.i c.args.t.0 (c.requires.good, (c.requires.m_bound, c.requires.room)) c.look-x.ensures c.if-x-i.true c.in_err-r.ensures refl)

pub remake-requires : goal.remake-requires
remake-requires t c =
    let q9 = rest_remake _ c.args.i c.args.t.0 (c.requires.good, (c.requires.m_bound, c.requires.room)) c.look-x.ensures c.if-x-i.true c.in_ok-r.ensures refl in
    record { good = q9.0; room = q9.1.0; child_bound = q9.1.1.0; holds = q9.1.1.1 }

pub returns-then-x-i : goal.returns-then-x-i
returns-then-x-i t c =
    rest_done _ c.args.i c.args.t.0 (c.requires.good, (c.requires.m_bound, c.requires.room)) c.look-x.ensures c.if-x-i.true c.in_ok-r.ensures refl c.remake.ensures

pub remove-requires : goal.remove-requires
remove-requires t c =
    let q9 = entry-asks (c.requires.good, (c.requires.m_bound, c.requires.room)) c.look-x.ensures in
    record { good = q9.0; p_bound = q9.1.0; room = q9.1.1 }

pub returns-in_err-c : goal.returns-in_err-c
returns-in_err-c t c =
    rw c.from_residual-in_err-c.ensures (entry_panics _ c.args.i c.args.t.0 (c.requires.good, (c.requires.m_bound, c.requires.room)) c.look-x.ensures (omega (arith, c.if-i-x.false, c.if-x-i.false)) c.in_err-c.ensures refl)

pub remake-requires-2 : goal.remake-requires-2
remake-requires-2 t c =
    let q9 = entry_remake _ c.args.i c.args.t.0 (c.requires.good, (c.requires.m_bound, c.requires.room)) c.look-x.ensures (omega (arith, c.if-i-x.false, c.if-x-i.false)) c.in_ok-c.ensures refl in
    record { good = q9.0; room = q9.1.0; child_bound = q9.1.1.0; holds = q9.1.1.1 }

pub returns : goal.returns
returns t c =
    entry_done _ c.args.i c.args.t.0 (c.requires.good, (c.requires.m_bound, c.requires.room)) c.look-x.ensures (omega (arith, c.if-i-x.false, c.if-x-i.false)) c.in_ok-c.ensures refl c.remake-2.ensures
