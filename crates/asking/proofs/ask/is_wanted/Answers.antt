-- `asking::ask::is_wanted` meets its contract.
use Rattle.asking.proofs.Steps.{low_wanted, one_unwanted, cell_wanted}
use native.Mathlib.Omega.{arith}
use Rattle.asking.proofs.ask.is_wanted.Goals as goal

pub returns-then-a-le-EMPTY_PIECE : goal.returns-then-a-le-EMPTY_PIECE
returns-then-a-le-EMPTY_PIECE c = low_wanted _ _ (omega (arith, c.if-a-le-EMPTY_PIECE.true))

pub returns-then-x-ne-EXIST_PIECE : goal.returns-then-x-ne-EXIST_PIECE
returns-then-x-ne-EXIST_PIECE c = cell_wanted c.look-x.ensures c.if-x-ne-EXIST_PIECE.true

pub returns-else-x-ne-EXIST_PIECE : goal.returns-else-x-ne-EXIST_PIECE
returns-else-x-ne-EXIST_PIECE c = rw c.if-x-ne-EXIST_PIECE.false (one_unwanted c.look-x.ensures c.if-x-ne-EXIST_PIECE.false)
