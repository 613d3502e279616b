-- `marks::report::write_part` meets its contract. Assumes nothing.
use borrow.Author.Rules.{rules}
use Rattle.marks.proofs.Stretches.{part_asked, part_none, part-total}
use Rattle.marks.proofs.report.write_part.Goals as goal

pub returns-then-eq : goal.returns-then-eq
returns-then-eq c =
    part_asked _ _ _ _ _ _ c.args.part.now _ c.requires.2 c.start-from.ensures (search rules) c.copy.ensures

pub returns-then-not-flags-i : goal.returns-then-not-flags-i
returns-then-not-flags-i c =
    part_none _ _ _ _ _ _ c.args.part.now _ c.requires.2 c.start-from.ensures (search rules) c.if-not-flags-i.true c.clear.ensures

pub returns : goal.returns
returns c =
    part-total _ _ _ _ _ _ c.args.part.now _ c.requires.2 c.start-from.ensures (search rules) c.if-not-flags-i.false c.copy-2.ensures
