-- `report::text::write_outcome` meets its contract: the line of a refusal, or the report that memory has, and its check.
use Rattle.report.proofs.Whole.{reported, line_asks, begins_whole}
use Rattle.report.proofs.text.write_outcome.Goals as goal

pub write_check-requires : goal.write_check-requires
write_check-requires c =
    line_asks (reported c.requires.text_is c.in-Ok.is) (rw c.behind.ensures at c.check_report-verdict.ensures) c.write_report_text.ensures c.from-in-Ok.ensures

pub returns-in-Ok : goal.returns-in-Ok
returns-in-Ok c =
    begins_whole (reported c.requires.text_is c.in-Ok.is) (rw c.behind.ensures at c.check_report-verdict.ensures) c.write_report_text.ensures c.from-in-Ok.ensures c.requires.max_line_in_bounds.0 c.requires.max_line_in_bounds.1 c.write_check.ensures
