-- `check_text::check::check_report` meets its contract: what is checked is the walk's report.
use Rattle.check_text.proofs.Meaning.{checks}
use Rattle.check_text.proofs.check.check_report.Goals as goal

pub returns : goal.returns
returns c = checks c.requires c.write_record-n.ensures c.check_in.ensures
