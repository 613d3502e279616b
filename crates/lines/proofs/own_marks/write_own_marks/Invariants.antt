-- `lines::own_marks::write_own_marks` meets its contract. The marks from this one on are left.
use lib.ListN.{drop}
use Rattle.lines.specs.Text.{marks_text}
use Rattle.lines.proofs.Along.{Along}
use Rattle.lines.proofs.own_marks.write_own_marks.Given as goal

abbrev pub invariant-loop-b : goal.invariant-loop-b
invariant-loop-b l = Along l.initial.text l.text (marks_text l.marks) (marks_text (drop l.b-index l.marks))
