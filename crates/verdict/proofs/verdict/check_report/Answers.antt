-- `verdict::verdict::check_report` meets its contract: 21, or what is answered of the marks.
use mathlib.Core.Path.{sym}
use Rattle.std.proofs.lemmas.List.{length-take-le}
use Rattle.verdict.proofs.Checking.{few_types, few_expressions, cut, refused_21, report-checked}
use native.Mathlib.Omega.{arith}
use Rattle.verdict.proofs.verdict.check_report.Goals as goal

pub returns-in_default : goal.returns-in_default
returns-in_default c =
    refused_21 c.requires c.args.report.now c.args.context.now c.marks_shape.ensures c.in_default.is

pub slice_bounds-check_marks-end : goal.slice_bounds-check_marks-end
slice_bounds-check_marks-end c =
    omega (arith, few_types c.requires c.types-n.ensures, c.requires.working.rows_long)

pub slice_bounds-check_marks-end-2 : goal.slice_bounds-check_marks-end-2
slice_bounds-check_marks-end-2 c =
    sym (length-take-le _ _ (omega (arith, few_types c.requires c.types-n.ensures, c.requires.working.rows_long)))

pub slice_bounds-check_marks-end-3 : goal.slice_bounds-check_marks-end-3
slice_bounds-check_marks-end-3 c =
    omega (arith, few_types c.requires c.types-n.ensures, c.requires.working.alike_long)

pub slice_bounds-check_marks-end-4 : goal.slice_bounds-check_marks-end-4
slice_bounds-check_marks-end-4 c =
    sym (length-take-le _ _ (omega (arith, few_types c.requires c.types-n.ensures, c.requires.working.alike_long)))

pub slice_bounds-check_marks-end-5 : goal.slice_bounds-check_marks-end-5
slice_bounds-check_marks-end-5 c =
    omega (arith, few_types c.requires c.types-n.ensures, c.requires.working.held_long)

pub slice_bounds-check_marks-end-6 : goal.slice_bounds-check_marks-end-6
slice_bounds-check_marks-end-6 c =
    sym (length-take-le _ _ (omega (arith, few_types c.requires c.types-n.ensures, c.requires.working.held_long)))

pub slice_bounds-check_marks-end-7 : goal.slice_bounds-check_marks-end-7
slice_bounds-check_marks-end-7 c =
    omega (arith, few_expressions c.requires c.expressions-e.ensures, c.requires.working.paths_long)

pub slice_bounds-check_marks-end-8 : goal.slice_bounds-check_marks-end-8
slice_bounds-check_marks-end-8 c =
    sym (length-take-le _ _ (omega (arith, few_expressions c.requires c.expressions-e.ensures, c.requires.working.paths_long)))

pub check_marks-requires : goal.check_marks-requires
check_marks-requires c = cut c.requires c.types-n.ensures c.expressions-e.ensures

pub returns : goal.returns
returns c =
    report-checked c.requires c.args.report.now c.args.context.now c.marks_shape.ensures c.in-Ok.is c.check_marks.ensures
