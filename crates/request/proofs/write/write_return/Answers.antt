-- `request::write::write_return` meets its contract.
use Rattle.request.proofs.Writing.{return_room, return_writes, return_child_room, return_part_writes}
use native.Mathlib.Omega.{arith}
use Rattle.request.proofs.write.write_return.Goals as goal

pub field-requires : goal.field-requires
field-requires c = return_room _ _ c.args.writer.now (omega (arith, c.if-n-le-EMPTY_PIECE.true)) c.requires.fits

pub returns-then-n-le-EMPTY_PIECE : goal.returns-then-n-le-EMPTY_PIECE
returns-then-n-le-EMPTY_PIECE c = return_writes _ _ _ (omega (arith, c.if-n-le-EMPTY_PIECE.true)) c.field.ensures

pub write_part-requires : goal.write_part-requires
write_part-requires c =
    record { good = c.requires.good; n_bound = omega (arith, c.look-x.ensures.child_low, c.requires.n_bound); fits = return_child_room c.args.cells.now c.args.n c.args.writer.now c.look-x.ensures c.requires.fits }

pub returns : goal.returns
returns c = return_part_writes _ _ _ c.look-x.ensures c.write_part.ensures
