-- `statement::atomic::record_of` meets its contract. Assumes nothing.
use mathlib.Core.Path.{refl}
use Rattle.statement.proofs.Asking.{handle_there, handle_absent}
use Rattle.statement.proofs.Loading.{load_absent, load_slot, load_piece, load_none, load_there}
use native.Mathlib.Omega.{arith}
use Rattle.statement.proofs.atomic.record_of.Goals as goal

pub returns-in_err-e : goal.returns-in_err-e
returns-in_err-e c = rw c.from_residual.ensures (load_absent c.requires (handle_absent c.in_err-e.was refl))

pub overflow_add-n : goal.overflow_add-n
overflow_add-n c =
    let h = load_slot c.requires (handle_there c.in_ok-e.was refl) c.expression_number-number.ensures in omega (arith, h)

pub offset_bounds-slots-number : goal.offset_bounds-slots-number
offset_bounds-slots-number c =
    let h = load_slot c.requires (handle_there c.in_ok-e.was refl) c.expression_number-number.ensures in omega (arith, h)

pub bounds-slots-number : goal.bounds-slots-number
bounds-slots-number c = load_slot c.requires (handle_there c.in_ok-e.was refl) c.expression_number-number.ensures

pub returns-then-n-le-EMPTY_PIECE : goal.returns-then-n-le-EMPTY_PIECE
returns-then-n-le-EMPTY_PIECE c =
    load_none c.requires (handle_there c.in_ok-e.was refl) c.expression_number-number.ensures refl c.if-n-le-EMPTY_PIECE.true

pub kid-requires-clause-n_bound : goal.kid-requires-clause-n_bound
kid-requires-clause-n_bound c = load_piece c.requires (handle_there c.in_ok-e.was refl) c.expression_number-number.ensures

pub returns : goal.returns
returns c =
    load_there c.requires (handle_there c.in_ok-e.was refl) c.expression_number-number.ensures c.if-n-le-EMPTY_PIECE.false c.kid.ensures
