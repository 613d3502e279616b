-- `memory::stretches::extend` meets its contract. Assumes nothing.
use Rattle.memory.proofs.Runs.{copied_none, extend_skip, extend_more}
use Rattle.memory.proofs.stretches.extend.Goals as goal
use Rattle.memory.proofs.stretches.extend.Goals.{then-r-ne-EMPTY_PIECE, else-r-ne-EMPTY_PIECE}

pub loop-k-init : goal.loop-k-init
loop-k-init c = copied_none _ _ _

pub loop-k-preserved : goal.loop-k-preserved
loop-k-preserved c =
    elim c.if-r-ne-EMPTY_PIECE.branch [
      | then-r-ne-EMPTY_PIECE w ↦ rw w.slots-is (extend_more _ _ _ _ _ _ c.loop-k.invariant c.requires.0 c.requires.1 c.loop-k-test.true w.if-r-ne-EMPTY_PIECE.true)
      | else-r-ne-EMPTY_PIECE w ↦ rw w.slots-is (extend_skip _ _ _ _ _ _ c.loop-k.invariant c.requires.0 c.requires.1 c.loop-k-test.true w.if-r-ne-EMPTY_PIECE.false)
    ]
