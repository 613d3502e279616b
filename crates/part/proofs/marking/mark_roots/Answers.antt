-- `mark_roots` meets its contract: after k turns the first k roots are marked.
use mathlib.Core.Path.{refl}
use Rattle.part.proofs.Marks.{cells_top, cells_good, raised_marks, rooted_none, rooted_more}
use Rattle.part.proofs.Exactly.{mapped_none, mapped_more}
use native.Mathlib.Omega.{arith}
use Rattle.part.proofs.marking.mark_roots.Goals as goal

pub loop-n-init : goal.loop-n-init
loop-n-init c = (rooted_none _ _, mapped_none _ _)

pub raise-requires : goal.raise-requires
raise-requires c =
    record { formed = cells_good c.loop-n.invariant.0.cells c.requires.formed; n_bound = omega (arith, cells_top c.loop-n.invariant.0.cells, c.requires.below c.loop-n.n-index c.loop-n-test.true) }

pub loop-n-preserved : goal.loop-n-preserved
loop-n-preserved c = (
  rooted_more c.requires.formed refl c.loop-n-test.true c.loop-n.invariant.0 (raised_marks (omega arith) c.raise.ensures),
  mapped_more refl (c.requires.below c.loop-n.n-index c.loop-n-test.true) c.loop-n.invariant.1 c.raise.ensures,
)
