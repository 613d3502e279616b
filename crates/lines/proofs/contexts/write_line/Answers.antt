-- `lines::contexts::write_line` meets its contract.
use Rattle.lines.proofs.Writing.{writes_then}
use Rattle.lines.proofs.contexts.write_line.Goals as goal

pub returns : goal.returns
returns c =
    writes_then c.word.ensures (writes_then c.number.ensures (writes_then c.byte.ensures (writes_then c.write_part.ensures c.byte-2.ensures)))
