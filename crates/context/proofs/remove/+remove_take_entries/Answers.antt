-- `context::remove::remove` and `take_entries` meet their contracts: q's number falls, and while q stays, p's.
use Rattle.context.proofs.Cycle.{done_all, done_exist, split_asks, entries_asks, done_part}
use Rattle.context.proofs.Cycle.{done_by_low, done_of_low, call_gt, done_gt, call_lt, panic_lt, make_lt, done_lt}
use Rattle.context.proofs.Cycle.{gone_eq, call_eq, panic_child, call_rest, panic_rest, make_rest, done_rest}
use mathlib.Core.Logic.{inl, inr}
use mathlib.Core.Path.{refl}
use native.Mathlib.Omega.{arith}
use Rattle.context.proofs.remove.+remove_take_entries.Goals as goal

pub remove-returns-then-q-eq-ALL_PIECE : goal.remove-returns-then-q-eq-ALL_PIECE
remove-returns-then-q-eq-ALL_PIECE t c =
    done_all _ c.args.t (c.requires.good, (c.requires.p_bound, c.requires.room)) c.if-q-eq-ALL_PIECE.true

pub remove-returns-then-q-eq-EXIST_PIECE : goal.remove-returns-then-q-eq-EXIST_PIECE
remove-returns-then-q-eq-EXIST_PIECE t c =
    done_exist _ c.args.t (c.requires.good, (c.requires.p_bound, c.requires.room)) c.if-q-eq-EXIST_PIECE.true

pub remove-split-s-requires : goal.remove-split-s-requires
remove-split-s-requires t c =
    let q9 = split_asks (c.requires.good, (c.requires.p_bound, c.requires.room)) in
    record { good = q9.0; room = q9.1 }

pub remove-take_entries-requires : goal.remove-take_entries-requires
remove-take_entries-requires t c =
    entries_asks _ c.args.t (c.requires.good, (c.requires.p_bound, c.requires.room)) c.args.types.now.all_sized c.split-s.ensures c.decreases

pub remove-returns : goal.remove-returns
remove-returns t c =
    done_part _ c.args.t (c.requires.good, (c.requires.p_bound, c.requires.room)) c.args.types.now.all_sized c.split-s.ensures c.if-q-eq-ALL_PIECE.false c.if-q-eq-EXIST_PIECE.false c.take_entries.ensures

pub take_entries-returns-then-q-le-EMPTY_PIECE : goal.take_entries-returns-then-q-le-EMPTY_PIECE
take_entries-returns-then-q-le-EMPTY_PIECE t c =
    elim c.then-q-le-EMPTY_PIECE.either [
      | inl h ↦ done_by_low _ c.args.t (c.requires.good, (c.requires.p_bound, c.requires.room)) (omega (arith, h))
      | inr h ↦ done_of_low _ c.args.t (c.requires.good, (c.requires.p_bound, c.requires.room)) (omega (arith, h.1))
    ]

pub take_entries-take_entries-requires : goal.take_entries-take_entries-requires
take_entries-take_entries-requires t c =
    call_gt (c.requires.good, (c.requires.p_bound, c.requires.room)) c.look-x.ensures c.look-y.ensures c.decreases

pub take_entries-returns-then-y-x : goal.take_entries-returns-then-y-x
take_entries-returns-then-y-x t c =
    done_gt _ c.args.t (c.requires.good, (c.requires.p_bound, c.requires.room)) c.look-x.ensures c.look-y.ensures c.if-y-x.true c.take_entries.ensures

pub take_entries-take_entries-requires-then-x-y : goal.take_entries-take_entries-requires-then-x-y
take_entries-take_entries-requires-then-x-y t c =
    call_lt (c.requires.good, (c.requires.p_bound, c.requires.room)) c.look-x.ensures c.look-y.ensures c.decreases

pub take_entries-returns-in_err-r : goal.take_entries-returns-in_err-r
take_entries-returns-in_err-r t c =
    rw c.from_residual.ensures (panic_lt _ c.args.t (c.requires.good, (c.requires.p_bound, c.requires.room)) c.look-x.ensures c.look-y.ensures c.if-x-y.true c.in_err-r.ensures refl)

pub take_entries-remake-requires : goal.take_entries-remake-requires
take_entries-remake-requires t c =
    let q9 = make_lt _ c.args.t (c.requires.good, (c.requires.p_bound, c.requires.room)) c.look-x.ensures c.look-y.ensures c.if-x-y.true c.in_ok-r.ensures refl in
    record { good = q9.0; room = q9.1.0; child_bound = q9.1.1.0; holds = q9.1.1.1 }

pub take_entries-returns-then-x-y : goal.take_entries-returns-then-x-y
take_entries-returns-then-x-y t c =
    done_lt _ c.args.t (c.requires.good, (c.requires.p_bound, c.requires.room)) c.look-x.ensures c.look-y.ensures c.if-x-y.true c.in_ok-r.ensures refl c.remake.ensures

pub take_entries-returns-in_err-u : goal.take_entries-returns-in_err-u
take_entries-returns-in_err-u t c =
    rw c.from_residual-in_err-u.ensures (gone_eq _ c.args.t (c.requires.good, (c.requires.p_bound, c.requires.room)) c.look-x.ensures c.look-y.ensures (omega (arith, c.if-y-x.false, c.if-x-y.false)) refl c.in_err-u.ensures)

pub take_entries-remove-requires : goal.take_entries-remove-requires
take_entries-remove-requires t c =
    call_eq (c.requires.good, (c.requires.p_bound, c.requires.room)) c.look-x.ensures c.look-y.ensures (omega (arith, c.if-y-x.false, c.if-x-y.false)) c.decreases

pub take_entries-returns-in_err-c : goal.take_entries-returns-in_err-c
take_entries-returns-in_err-c t c =
    rw c.from_residual-in_err-c.ensures (panic_child _ c.args.t (c.requires.good, (c.requires.p_bound, c.requires.room)) c.look-x.ensures c.look-y.ensures (omega (arith, c.if-y-x.false, c.if-x-y.false)) refl c.in_ok-u.ensures c.in_err-c.ensures refl)

pub take_entries-take_entries-requires-2 : goal.take_entries-take_entries-requires-2
take_entries-take_entries-requires-2 t c =
    call_rest _ c.args.t (c.requires.good, (c.requires.p_bound, c.requires.room)) c.look-x.ensures c.look-y.ensures (omega (arith, c.if-y-x.false, c.if-x-y.false)) refl c.in_ok-u.ensures c.in_ok-c.ensures c.decreases

pub take_entries-returns-in_err-r-2 : goal.take_entries-returns-in_err-r-2
take_entries-returns-in_err-r-2 t c =
    rw c.from_residual-in_err-r-2.ensures (panic_rest _ c.args.t (c.requires.good, (c.requires.p_bound, c.requires.room)) c.look-x.ensures c.look-y.ensures (omega (arith, c.if-y-x.false, c.if-x-y.false)) refl c.in_ok-u.ensures c.in_ok-c.ensures refl c.in_err-r-2.ensures refl)

pub take_entries-remake-requires-2 : goal.take_entries-remake-requires-2
take_entries-remake-requires-2 t c =
    let q9 = make_rest _ c.args.t (c.requires.good, (c.requires.p_bound, c.requires.room)) c.look-x.ensures c.look-y.ensures (omega (arith, c.if-y-x.false, c.if-x-y.false)) refl c.in_ok-u.ensures c.in_ok-c.ensures refl c.in_ok-r-2.ensures refl in
    record { good = q9.0; room = q9.1.0; child_bound = q9.1.1.0; holds = q9.1.1.1 }

pub take_entries-returns : goal.take_entries-returns
take_entries-returns t c =
    done_rest _ c.args.t (c.requires.good, (c.requires.p_bound, c.requires.room)) c.look-x.ensures c.look-y.ensures (omega (arith, c.if-y-x.false, c.if-x-y.false)) refl c.in_ok-u.ensures c.in_ok-c.ensures refl c.in_ok-r-2.ensures refl c.remake-2.ensures
