-- `lines::statements::write_statements` meets its contract. The lines from the statement s on are left.
use Rattle.lines.proofs.Along.{along_none, along_fits, along_more, along_done}
use Rattle.lines.proofs.StatementLines.{lines_all, lines_none, lines_next, marks_there}
use native.Mathlib.Omega.{arith}
use lib.ListN.{length-drop}
use Rattle.std.proofs.lemmas.List.{take_rest}
use Rattle.lines.proofs.statements.write_statements.Goals as goal

pub loop-s-init : goal.loop-s-init
loop-s-init c =
    along_none _ (lines_all c.args.file.now.bytes c.args.file.now.t c.args.marks.now c.args.f.0)

pub slice_bounds-write_statement-count : goal.slice_bounds-write_statement-count
slice_bounds-write_statement-count c =
    omega (arith, marks_there c.requires.0 c.loop-s.s (omega (arith, c.statements-n.ensures)) c.place-from.ensures)

pub slice_bounds-write_statement-start : goal.slice_bounds-write_statement-start
slice_bounds-write_statement-start c =
    omega (arith, marks_there c.requires.0 c.loop-s.s (omega (arith, c.statements-n.ensures)) c.place-from.ensures)

pub write_statement-requires : goal.write_statement-requires
write_statement-requires c =
    rw (take_rest c.args.marks.now c.place-from.result)
    (omega (arith, length-drop c.place-from.result c.args.marks.now, marks_there c.requires.0 c.loop-s.s (omega (arith, c.statements-n.ensures)) c.place-from.ensures), along_fits c.requires.1 c.loop-s.invariant (lines_next c.requires.0 c.loop-s.s (omega (arith, c.statements-n.ensures)) c.place-from.ensures))

pub loop-s-preserved : goal.loop-s-preserved
loop-s-preserved c =
    along_more c.loop-s.invariant (lines_next c.requires.0 c.loop-s.s (omega (arith, c.statements-n.ensures)) c.place-from.ensures) (rw (take_rest c.args.marks.now c.place-from.result) at c.write_statement.ensures)

pub returns : goal.returns
returns c =
    along_done c.loop-s.invariant (lines_none c.requires.0 c.loop-s.s (omega (arith, c.statements-n.ensures)))
