-- `memory::want::entry` meets its contract. Assumes nothing.
use Rattle.memory.proofs.Asks.{entry_wrapped, entry_after, entry_none, entry_there}
use native.Mathlib.Omega.{arith}
use Rattle.memory.proofs.want.entry.Goals as goal

pub returns-then-k-eq0 : goal.returns-then-k-eq0
returns-then-k-eq0 c = entry_wrapped _ _ c.requires.1 _ c.if-up-gt0.true c.if-k-eq0.true

pub returns-then-up-gt0 : goal.returns-then-up-gt0
returns-then-up-gt0 c = entry_after _ _ c.requires.1 _ c.if-up-gt0.true c.if-k-eq0.false

pub returns-then-t-le-EMPTY_PIECE : goal.returns-then-t-le-EMPTY_PIECE
returns-then-t-le-EMPTY_PIECE c =
    entry_none _ _ c.requires.1 _ _ _ c.if-up-gt0.false c.reach-m.ensures.1 _ c.tail-t.ensures.1 (omega (arith, c.if-t-le-EMPTY_PIECE.true))

pub returns : goal.returns
returns c =
    entry_there _ _ c.requires.1 _ _ _ c.if-up-gt0.false c.reach-m.ensures.1 _ c.tail-t.ensures.1 c.look-x.ensures
