-- `memory::want::tail` meets its contract. Assumes nothing.
use mathlib.Core.Path.{sym, ◌∙◌}
use Rattle.memory.proofs.Asks.{after-low, after-cell, tail_none, tail_more}
use native.Mathlib.Omega.{arith}
use Rattle.memory.proofs.want.tail.Goals as goal
use Rattle.memory.proofs.want.tail.Goals.{then-m-gt-EMPTY_PIECE, else-m-gt-EMPTY_PIECE}

pub loop-init : goal.loop-init
loop-init c = (omega arith, tail_none _)

pub loop-preserved : goal.loop-preserved
loop-preserved c =
    elim c.if-m-gt-EMPTY_PIECE.branch [
      | then-m-gt-EMPTY_PIECE w ↦ (rw w.m-is (omega arith), rw w.m-is (after-cell w.look.ensures ∙ rw c.loop.invariant.1 (sym (tail_more _ _))))
      | else-m-gt-EMPTY_PIECE w ↦ (rw w.m-is (omega arith), rw w.m-is (after-low _ _ w.if-m-gt-EMPTY_PIECE.false ∙ rw c.loop.invariant.1 (sym (tail_more _ _))))
    ]
