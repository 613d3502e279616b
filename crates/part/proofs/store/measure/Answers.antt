-- `measure` meets its contract.
use native.Mathlib.Omega.{arith}
use Rattle.part.proofs.Measures.{measures_low, measures_none}
use Rattle.part.proofs.store.measure.Goals as goal

pub returns-then-n-le-EXIST_PIECE : goal.returns-then-n-le-EXIST_PIECE
returns-then-n-le-EXIST_PIECE c = measures_low _ _ (omega (arith, c.if-n-le-EXIST_PIECE.true))

pub returns-then-n-eq-EMPTY_PIECE : goal.returns-then-n-eq-EMPTY_PIECE
returns-then-n-eq-EMPTY_PIECE c = measures_none _ _ c.if-n-eq-EMPTY_PIECE.true
