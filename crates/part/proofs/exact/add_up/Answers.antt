-- `add_up` meets its contract.
use Rattle.part.proofs.Exactly.{added_skip, added_more}
use native.Mathlib.Omega.{arith}
use Rattle.part.proofs.exact.add_up.Goals as goal
use Rattle.part.proofs.exact.add_up.Goals.{then-word-eq-HELD, else-word-eq-HELD}

pub loop-k-preserved : goal.loop-k-preserved
loop-k-preserved c =
    elim c.if-word-eq-HELD.branch [
      | then-word-eq-HELD w ↦
          rw w.sum-is
          (added_more c.loop-k.invariant c.requires (omega arith) c.loop-k-test.true c.word.ensures w.if-word-eq-HELD.true w.word-then-word-eq-HELD.ensures)
      | else-word-eq-HELD w ↦ rw w.sum-is (added_skip c.loop-k.invariant c.word.ensures w.if-word-eq-HELD.false)
    ]
