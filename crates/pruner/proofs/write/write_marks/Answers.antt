-- `pruner::write::write_marks` meets its contract: the loop's invariant says that the marks before this one are written.
use lib.ListN.{take}
use lib.Seq.{take-length}
use Rattle.pruner.proofs.Writing.{none_written, all_written, mark_room, mark_again}
use native.Mathlib.Omega.{arith}
use Rattle.pruner.proofs.write.write_marks.Goals as goal

pub loop-mark-init : goal.loop-mark-init
loop-mark-init c = none_written

pub field-requires : goal.field-requires
field-requires c = mark_room c.args.marks.now c.loop-mark.invariant c.loop-mark-test.true c.requires

pub loop-mark-preserved : goal.loop-mark-preserved
loop-mark-preserved c = mark_again c.args.marks.now c.loop-mark.invariant c.loop-mark-test.true c.field.ensures

pub returns : goal.returns
returns c =
    rw (take-length c.args.marks.now) at (all_written (λ j. take j c.args.marks.now) c.loop-mark.invariant (omega (arith, c.loop-mark-test.false)))
