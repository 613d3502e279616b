-- `verdict::verdict::check_marks` meets its contract: what is not judged, or what the rounds answer of a judged function.
use Rattle.verdict.proofs.Checking.{there, not_judged, firsts-asked, settling, settled}
use Rattle.verdict.proofs.verdict.check_marks.Goals as goal

pub fill_tables-requires : goal.fill_tables-requires
fill_tables-requires c = (there c.requires, c.requires.sized)

pub returns-in-Some : goal.returns-in-Some
returns-in-Some c = not_judged c.requires c.args.marks.now c.args.context.now c.unjudged.ensures c.in-Some.is

pub fill_firsts-requires : goal.fill_firsts-requires
fill_firsts-requires c = firsts-asked c.requires

pub settle-requires : goal.settle-requires
settle-requires c =
    settling c.requires c.unjudged.ensures c.in_default.is c.fill_tables.ensures c.fill_firsts.ensures

pub returns : goal.returns
returns c =
    settled c.requires c.unjudged.ensures c.in_default.is c.args.marks.now c.args.context.now c.settle.ensures
