-- `forms::take::change_entry` meets its contract. The measure is the number of the entries.
use Rattle.forms.proofs.Taking.{changed_low, changed_before, keep_asks, changed_at, change_call, change_makes, changed_after}
use native.Mathlib.Omega.{arith}
use Rattle.forms.proofs.take.+change_entry.Goals as goal

pub returns-then-p-le-EMPTY_PIECE : goal.returns-then-p-le-EMPTY_PIECE
returns-then-p-le-EMPTY_PIECE t c = changed_low (c.requires.good, (c.requires.p_bound, c.requires.room)) _ (omega (arith, c.if-p-le-EMPTY_PIECE.true))

pub look-x-requires : goal.look-x-requires
look-x-requires t c = record { good = c.requires.good; lt_n = (omega (arith, c.if-p-le-EMPTY_PIECE.false), c.requires.p_bound.0) }

pub returns-then-i-x : goal.returns-then-i-x
returns-then-i-x t c =
    changed_before (c.requires.good, (c.requires.p_bound, c.requires.room)) _ c.look-x.ensures c.if-i-x.true

pub keep-requires : goal.keep-requires
keep-requires t c =
    let q9 = keep_asks (c.requires.good, (c.requires.p_bound, c.requires.room)) c.args.i c.look-x.ensures in
    record { good = q9.0; room = q9.1.0; child_bound = q9.1.1 }

pub returns-then-i-x-2 : goal.returns-then-i-x-2
returns-then-i-x-2 t c =
    changed_at (c.requires.good, (c.requires.p_bound, c.requires.room)) _ c.look-x.ensures c.if-i-x-2.true c.keep.ensures

pub change_entry-r-requires : goal.change_entry-r-requires
change_entry-r-requires t c =
    change_call (c.requires.good, (c.requires.p_bound, c.requires.room)) c.args.i c.look-x.ensures c.decreases

pub make-requires : goal.make-requires
make-requires t c =
    let q9 = change_makes (c.requires.good, (c.requires.p_bound, c.requires.room)) c.args.i c.look-x.ensures c.change_entry-r.ensures in
    record { good = q9.0; room = q9.1.0; child_bound = q9.1.1 }

pub returns : goal.returns
returns t c =
    changed_after (c.requires.good, (c.requires.p_bound, c.requires.room)) _ c.look-x.ensures c.if-i-x.false c.if-i-x-2.false c.change_entry-r.ensures c.make.ensures
