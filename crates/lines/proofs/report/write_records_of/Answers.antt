-- `lines::report::write_records_of` meets its contract.
use mathlib.Core.Path.{sym}
use Rattle.lines.proofs.Writing.{fits_as, writes_as}
use Rattle.lines.proofs.ReportText.{records_there, records_within}
use Rattle.lines.proofs.report.write_records_of.Goals as goal

pub write_records-requires : goal.write_records-requires
write_records-requires c =
    rw c.expressions_from-first.ensures (record { good = (c.requires.0.good, c.requires.0.below); n_in_bounds = ((records_within c.args.file.now.t c.args.f.0 c.row-row.ensures c.requires.1 c.args.cells.now c.args.slots.now c.requires.0).0, (records_within c.args.file.now.t c.args.f.0 c.row-row.ensures c.requires.1 c.args.cells.now c.args.slots.now c.requires.0).1, fits_as (records_there c.args.file.now.t c.args.f.0 c.row-row.ensures c.requires.1 c.args.cells.now c.args.slots.now) c.requires.2) })

pub returns : goal.returns
returns c =
    writes_as (sym (records_there c.args.file.now.t c.args.f.0 c.row-row.ensures c.requires.1 c.args.cells.now c.args.slots.now)) (rw c.expressions_from-first.ensures at c.write_records.ensures)
