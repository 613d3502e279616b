-- `lines::statements::write_statement` meets its contract.
use Rattle.lines.proofs.Writing.{rooms_first, rooms_then}
use Rattle.lines.proofs.StatementLines.{statement_rooms, statement_writes}
use native.Mathlib.Omega.{arith}
use lib.ListN.{length-take}
use Rattle.lines.proofs.statements.write_statement.Goals as goal

pub write_name-requires : goal.write_name-requires
write_name-requires c =
    rooms_first (rooms_then (rooms_then (rooms_then (statement_rooms c.args.file.now.bytes c.args.file.now.t c.args.f.0 c.args.s c.args.marks.now c.statement-row.ensures c.mark_count-n.ensures c.requires.1) c.word.ensures) c.number.ensures) c.byte.ensures)

pub write_own_marks-requires : goal.write_own_marks-requires
write_own_marks-requires c =
    rooms_first (rooms_then (rooms_then (rooms_then (rooms_then (statement_rooms c.args.file.now.bytes c.args.file.now.t c.args.f.0 c.args.s c.args.marks.now c.statement-row.ensures c.mark_count-n.ensures c.requires.1) c.word.ensures) c.number.ensures) c.byte.ensures) c.write_name.ensures)

pub slice_bounds-write_own_marks-end : goal.slice_bounds-write_own_marks-end
slice_bounds-write_own_marks-end c = omega (arith, length-take c.mark_count-n.result c.args.marks.now, c.requires.0, c.mark_count-n.ensures)

pub byte-requires-2 : goal.byte-requires-2
byte-requires-2 c =
    rooms_first (rooms_then (rooms_then (rooms_then (rooms_then (rooms_then (statement_rooms c.args.file.now.bytes c.args.file.now.t c.args.f.0 c.args.s c.args.marks.now c.statement-row.ensures c.mark_count-n.ensures c.requires.1) c.word.ensures) c.number.ensures) c.byte.ensures) c.write_name.ensures) c.write_own_marks.ensures)

pub returns : goal.returns
returns c =
    statement_writes c.args.file.now.bytes c.args.file.now.t c.args.f.0 c.args.s c.args.marks.now c.statement-row.ensures c.mark_count-n.ensures c.word.ensures c.number.ensures c.byte.ensures c.write_name.ensures c.write_own_marks.ensures c.byte-2.ensures
