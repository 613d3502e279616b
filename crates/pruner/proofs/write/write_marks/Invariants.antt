-- `pruner::write::write_marks` meets its contract: the loop's invariant says that the marks before this one are written.
use lib.ListN.{length, take}
use Rattle.pruner.proofs.Writing.{Going}
use Rattle.pruner.proofs.write.write_marks.Given as goal

abbrev pub invariant-loop-mark : goal.invariant-loop-mark
invariant-loop-mark l = Going (length l.marks) l.mark-index l.initial.writer l.writer (take l.mark-index l.marks)
