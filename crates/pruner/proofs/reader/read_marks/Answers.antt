-- `pruner::reader::read_marks` meets its contract: the loop's invariant says that the first k marks were read.
use mathlib.Core.Path.{refl}
use Rattle.pruner.proofs.Marking.{marking_first, marking_ends, marking_other, marking_more, marking_done}
use native.Mathlib.Omega.{arith}
use lib.ListN.{length-set}
use Rattle.pruner.proofs.reader.read_marks.Goals as goal

pub loop-mark-init : goal.loop-mark-init
loop-mark-init c = marking_first c.args.pruner.now c.args.marks.now

pub returns-in_err-b : goal.returns-in_err-b
returns-in_err-b c =
    rw c.from_residual.ensures (marking_ends c.loop-mark.invariant (let l = c.loop-mark.invariant.long in omega arith) (length-set c.loop-mark.marks _ _) c.in_err-b.ensures)

pub returns-then-b-gt1 : goal.returns-then-b-gt1
returns-then-b-gt1 c =
    marking_other c.loop-mark.invariant (let l = c.loop-mark.invariant.long in omega arith) c.in_ok-b.ensures (length-set c.loop-mark.marks _ _) c.if-b-gt1.true

pub loop-mark-preserved : goal.loop-mark-preserved
loop-mark-preserved c =
    marking_more c.loop-mark.invariant (let l = c.loop-mark.invariant.long in omega arith) c.in_ok-b.ensures (omega (arith, c.if-b-gt1.false))

pub returns : goal.returns
returns c = marking_done c.loop-mark.invariant refl (let l = c.loop-mark.invariant.long in omega arith)
