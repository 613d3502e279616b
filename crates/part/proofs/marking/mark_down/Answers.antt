-- `mark_down` meets its contract: from n up, what is marked is walked, and what a marked cell names is marked.
use Rattle.part.proofs.Marks.{raised_marks, marking_skip, marking_more, marking_asks, marking_asks_child, marking_asks_rest}
use Rattle.part.proofs.Exactly.{walked_skip, walked_more}
use native.Mathlib.Omega.{arith}
use Rattle.part.proofs.marking.mark_down.Goals as goal

pub peek-x-requires : goal.peek-x-requires
peek-x-requires c =
    let q9 = marking_asks c.requires c.loop-n.invariant.0 (omega arith) (omega arith) in
    record { formed = q9.0; lt_n = q9.1 }

pub raise-requires : goal.raise-requires
raise-requires c =
    let q9 = marking_asks_child c.requires c.loop-n.invariant.0 (omega arith) (omega arith) c.peek-x.ensures in
    record { formed = q9.0; n_bound = q9.1 }

pub raise-requires-then-word-gt0 : goal.raise-requires-then-word-gt0
raise-requires-then-word-gt0 c =
    let q9 = marking_asks_rest c.requires c.loop-n.invariant.0 (omega arith) (omega arith) c.peek-x.ensures (raised_marks (omega arith) c.raise.ensures) in
    record { formed = q9.0; n_bound = q9.1 }

pub loop-n-preserved-then-word-gt0 : goal.loop-n-preserved-then-word-gt0
loop-n-preserved-then-word-gt0 c = (
  marking_more c.loop-n.invariant.0 (omega arith) (omega arith) c.requires (omega (arith, c.if-word-gt0.true, c.word.ensures)) c.peek-x.ensures (raised_marks (omega arith) c.raise.ensures) (raised_marks (omega arith) c.raise-then-word-gt0.ensures),
  walked_more c.requires c.loop-n.invariant.1 (omega arith) (omega arith) (omega (arith, c.if-word-gt0.true, c.word.ensures)) c.peek-x.ensures c.raise.ensures c.raise-then-word-gt0.ensures,
)

pub loop-n-preserved : goal.loop-n-preserved
loop-n-preserved c = (
  marking_skip c.loop-n.invariant.0 (omega arith) (omega arith) (omega (arith, c.if-word-gt0.false, c.word.ensures)),
  walked_skip c.requires c.loop-n.invariant.1 (omega arith) (omega arith) (omega (arith, c.if-word-gt0.false, c.word.ensures)),
)
