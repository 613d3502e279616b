-- `check_text::line::write_named` meets its contract: a name, and the number behind it.
use Rattle.lines.proofs.Writing.{writes_then}
use Rattle.check_text.proofs.line.write_named.Goals as goal

pub returns : goal.returns
returns c = writes_then c.word.ensures c.number.ensures
