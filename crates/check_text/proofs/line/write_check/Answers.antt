-- `check_text::line::write_check` meets its contract: the line in three pieces.
use Rattle.lines.proofs.Writing.{rooms_first, rooms_then}
use Rattle.check_text.proofs.Saying.{said_roomy, line_rooms, line_writes}
use Rattle.check_text.proofs.line.write_check.Goals as goal

pub write_answer-requires : goal.write_answer-requires
write_answer-requires c =
    (c.requires.0, rooms_first (rooms_then (line_rooms _ (said_roomy c.requires.0) c.requires.1) c.word.ensures))

pub byte-requires : goal.byte-requires
byte-requires c =
    rooms_first (rooms_then (rooms_then (line_rooms _ (said_roomy c.requires.0) c.requires.1) c.word.ensures) c.write_answer.ensures)

pub returns : goal.returns
returns c = line_writes _ c.word.ensures c.write_answer.ensures c.byte.ensures
