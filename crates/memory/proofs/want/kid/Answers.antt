-- `memory::want::kid` meets its contract. Assumes nothing.
use Rattle.memory.proofs.Asks.{kid-low, kid-cell}
use native.Mathlib.Omega.{arith}
use Rattle.memory.proofs.want.kid.Goals as goal

pub returns-then-n-gt-EMPTY_PIECE : goal.returns-then-n-gt-EMPTY_PIECE
returns-then-n-gt-EMPTY_PIECE c = (omega arith, kid-cell c.look.ensures)

pub returns-else-n-gt-EMPTY_PIECE : goal.returns-else-n-gt-EMPTY_PIECE
returns-else-n-gt-EMPTY_PIECE c = (omega arith, kid-low _ _ c.if-n-gt-EMPTY_PIECE.false)
