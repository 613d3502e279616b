-- `slide` meets its contract: before n, what is marked has gone to the first numbers; from n on all stands where it stood.
use Rattle.part.proofs.Slides.{sliding_start, sliding_skip, sliding_more}
use native.Mathlib.Omega.{arith}
use Rattle.part.proofs.collect.slide.Goals as goal
use Rattle.part.proofs.collect.slide.Goals.{then-word-gt0, else-word-gt0}

pub loop-n-init : goal.loop-n-init
loop-n-init c = sliding_start _

pub loop-n-preserved : goal.loop-n-preserved
loop-n-preserved c =
    elim c.if-word-gt0.branch [
      | then-word-gt0 w ↦
          rw (w.cells-is, w.v-is)
          (sliding_more c.requires.formed c.loop-n.invariant c.loop-n-test.true c.requires.closed (omega (arith, w.if-word-gt0.true, c.word.ensures)) w.slide_one.ensures)
      | else-word-gt0 w ↦
          rw (w.cells-is, w.v-is)
          (sliding_skip c.requires.formed c.loop-n.invariant c.loop-n-test.true (omega (arith, w.if-word-gt0.false, c.word.ensures)))
    ]
