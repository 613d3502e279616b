-- `lines::statements::write_statements` meets its contract. The lines from the statement s on are left.
use Rattle.lines.specs.Reported.{statements_in}
use Rattle.lines.proofs.Along.{Along}
use Rattle.lines.proofs.StatementLines.{lines_left}
use Rattle.lines.proofs.statements.write_statements.Given as goal

abbrev pub invariant-loop-s : goal.invariant-loop-s
invariant-loop-s l = Along l.initial.text l.text (statements_in l.file.bytes l.file.t l.marks l.f.0) (lines_left l.file.bytes l.file.t l.marks l.f.0 l.s)
