-- `lines::report::write_report_text` meets its contract.
use Rattle.lines.proofs.Writing.{rooms_first, rooms_then}
use Rattle.lines.proofs.ReportText.{report_rooms, items_within, report_begins}
use Rattle.lines.proofs.report.write_report_text.Goals as goal

pub write_required-requires : goal.write_required-requires
write_required-requires c = rooms_first (report_rooms c.requires.0 c.args.required c.requires.1)

pub write_context_at-requires : goal.write_context_at-requires
write_context_at-requires c =
    (c.requires.0.memory, c.requires.0.high, rooms_first (rooms_then (report_rooms c.requires.0 c.args.required c.requires.1) c.write_required.ensures))

pub write_records_of-requires : goal.write_records_of-requires
write_records_of-requires c =
    (c.requires.0.memory, items_within c.requires.0 c.args.required, rooms_first (rooms_then (rooms_then (report_rooms c.requires.0 c.args.required c.requires.1) c.write_required.ensures) c.write_context_at.ensures))

pub write_statements-requires : goal.write_statements-requires
write_statements-requires c =
    (c.requires.0.marked, rooms_first (rooms_then (rooms_then (rooms_then (report_rooms c.requires.0 c.args.required c.requires.1) c.write_required.ensures) c.write_context_at.ensures) c.write_records_of.ensures))

pub returns : goal.returns
returns c =
    report_begins c.requires.0 c.args.required c.requires.1 c.requires.2 c.write_required.ensures c.write_context_at.ensures c.write_records_of.ensures c.write_statements.ensures
