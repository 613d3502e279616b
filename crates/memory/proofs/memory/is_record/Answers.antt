-- `memory::memory::is_record` meets its contract. Assumes nothing.
use Rattle.memory.proofs.Notes.{record_none, record_cell}
use native.Mathlib.Omega.{arith}
use Rattle.memory.proofs.memory.is_record.Goals as goal

pub returns-then-n-le-EMPTY_PIECE : goal.returns-then-n-le-EMPTY_PIECE
returns-then-n-le-EMPTY_PIECE c = record_none _ _ _ (omega (arith, c.if-n-le-EMPTY_PIECE.true))

pub returns : goal.returns
returns c = record_cell c.requires.good c.requires.n_bound c.look-x.ensures
