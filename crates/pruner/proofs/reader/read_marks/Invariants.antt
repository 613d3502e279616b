-- `pruner::reader::read_marks` meets its contract: the loop's invariant says that the first k marks were read.
use lib.ListN.{length}
use Rattle.pruner.proofs.Marking.{Marking}
use Rattle.pruner.proofs.reader.read_marks.Given as goal

abbrev pub invariant-loop-mark : goal.invariant-loop-mark
invariant-loop-mark l = Marking l.pruner (length l.initial.marks) l.marks l.mark-index l.left
