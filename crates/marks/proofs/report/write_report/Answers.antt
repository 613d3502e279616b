-- `marks::report::write_report` meets its contract. Assumes nothing.
use Rattle.marks.specs.Report.{report_in}
use Rattle.marks.proofs.Turns.{still_long}
use Rattle.marks.proofs.Write.{write_none}
use Rattle.marks.proofs.Stretches.{lent_long, report-turn}
use native.Mathlib.Omega.{arith}
use Rattle.marks.proofs.report.write_report.Goals as goal

pub loop-f-init : goal.loop-f-init
unfolding report_in
loop-f-init c = (write_none _ 0)

pub overflow_cast-i : goal.overflow_cast-i
overflow_cast-i c = omega (arith, c.requires.2)

pub range-requires : goal.range-requires
range-requires c = (c.requires.0.each c.loop-f.f c.loop-f-test.true).entry

pub slice_bounds-part-end : goal.slice_bounds-part-end
slice_bounds-part-end c =
    let i = c.requires.0.each c.loop-f.f c.loop-f-test.true in let u = i.within in let l = still_long _ _ _ 0 c.loop-f.invariant in omega (arith, c.requires.4)

pub write_part-requires : goal.write_part-requires
write_part-requires c =
    let i = c.requires.0.each c.loop-f.f c.loop-f-test.true in let l = still_long _ _ _ 0 c.loop-f.invariant in (i, c.requires.1, lent_long c.loop-f.report _ _ _ c.range.result.start c.range.result.end i (omega (arith, c.requires.4)) (omega arith) (omega arith), omega (arith, c.requires.3), c.requires.5)

pub loop-f-preserved : goal.loop-f-preserved
loop-f-preserved c =
    (report-turn _ _ _ _ _ c.requires.0 c.requires.1 c.requires.5 _ _ _ _ _ _ c.loop-f-test.true c.requires.4 c.loop-f.invariant c.range.ensures.start c.range.ensures.end c.write_part.ensures)

pub shape_of-report : goal.shape_of-report
shape_of-report c = still_long _ _ _ 0 c.loop-f.invariant
