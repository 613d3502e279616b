-- `lines::report::write_refused` meets its contract.
use Rattle.lines.proofs.Writing.{rooms_first, rooms_then}
use Rattle.lines.proofs.ReportText.{refused_rooms, refused_begins}
use native.Mathlib.Omega.{arith}
use Rattle.lines.proofs.report.write_refused.Goals as goal

pub number-requires : goal.number-requires
number-requires c =
    rooms_first (rooms_then (refused_rooms c.args.n (omega arith) c.requires.0) c.word.ensures)

pub byte-requires : goal.byte-requires
byte-requires c =
    rooms_first (rooms_then (rooms_then (refused_rooms c.args.n (omega arith) c.requires.0) c.word.ensures) c.number.ensures)

pub returns : goal.returns
returns c =
    refused_begins c.args.n (omega arith) c.requires.0 c.requires.1 c.word.ensures c.number.ensures c.byte.ensures
