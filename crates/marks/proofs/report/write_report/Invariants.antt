-- `marks::report::write_report` meets its contract. Assumes nothing.
use mathlib.Core.Path.{◌≡◌}
use Rattle.walk.specs.Marks.{write_marks}
use Rattle.marks.specs.Report.{totals_of, report_in}
use Rattle.marks.proofs.report.write_report.Given as goal

abbrev pub invariant-loop-f : goal.invariant-loop-f
invariant-loop-f l = l.report ≡ write_marks l.initial.report 0 (report_in l.starts l.marks (totals_of l.flags l.kept) l.asked.0 l.f)
