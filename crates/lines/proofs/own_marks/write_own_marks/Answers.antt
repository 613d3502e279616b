-- `lines::own_marks::write_own_marks` meets its contract. The marks from this one on are left.
use Rattle.lines.proofs.Along.{along_fits, along_more, along_done}
use Rattle.lines.proofs.Own.{marks_next, marks_none}
use native.Mathlib.Omega.{arith}
use Rattle.lines.proofs.own_marks.write_own_marks.Goals as goal

pub write_mark-requires : goal.write_mark-requires
write_mark-requires c = along_fits c.requires c.loop-b.invariant (marks_next c.args.marks.now c.loop-b.b-index (omega arith))

pub loop-b-preserved : goal.loop-b-preserved
loop-b-preserved c = along_more c.loop-b.invariant (marks_next c.args.marks.now c.loop-b.b-index (omega arith)) c.write_mark.ensures

pub returns : goal.returns
returns c = along_done c.loop-b.invariant (marks_none c.args.marks.now c.loop-b.b-index (omega arith))
