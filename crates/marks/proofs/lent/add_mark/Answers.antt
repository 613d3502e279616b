-- `marks::lent::add_mark` meets its contract. Assumes nothing.
use mathlib.Core.Path.{sym}
use Rattle.walk.specs.Marks.{add_mark}
use Rattle.marks.proofs.Turns.{add_marked}
use Rattle.marks.proofs.lent.add_mark.Goals as goal

pub returns-then-a-eq0 : goal.returns-then-a-eq0
unfolding add_mark
returns-then-a-eq0 c = rw c.if-a-eq0.true

pub returns : goal.returns
unfolding add_mark
returns c = sym (add_marked c.args.a c.args.b c.if-a-eq0.false)
