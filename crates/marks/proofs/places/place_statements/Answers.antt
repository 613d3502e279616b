-- `marks::places::place_statements` meets its contract. Assumes nothing.
use mathlib.Core.Path.{ap, ◌∙◌}
use native.Mathlib.Omega.{arith}
use lib.ListN.{length}
use Rattle.marks.proofs.Placed.{statement_count, at_first, at_more, placed_long, placed_none, placed_more, placed_all}
use Rattle.marks.proofs.places.place_statements.Goals as goal

pub loop-s-init : goal.loop-s-init
loop-s-init c =
    (placed_none _ _ c.requires.0 _ _, at_first _ _ c.requires.0 _ _ c.requires.2)

pub overflow_add-at : goal.overflow_add-at
overflow_add-at c =
    let l = statement_count _ _ c.requires.0 c.args.f.0 in let h = (at_more _ _ c.requires.0 _ c.loop-s.s _ _ c.requires.1 (omega (arith, c.statements-n.ensures)) c.loop-s.invariant.1 c.mark_count-at.ensures).1 in omega arith

pub loop-s-preserved : goal.loop-s-preserved
loop-s-preserved c =
    let l = statement_count _ _ c.requires.0 c.args.f.0 in
    (placed_more _ _ c.requires.0 _ _ _ _ _ _ _ c.loop-s.invariant.0 c.loop-s.invariant.1 c.statement_number.ensures c.put.ensures, (at_more _ _ c.requires.0 _ c.loop-s.s _ _ c.requires.1 (omega (arith, c.statements-n.ensures)) c.loop-s.invariant.1 c.mark_count-at.ensures).0)

pub shape_of-firsts : goal.shape_of-firsts
shape_of-firsts c = ap length c.loop-s.invariant.0 ∙ placed_long _ _ c.requires.0 c.args.f.0 _ _

pub returns : goal.returns
returns c =
    let l = statement_count _ _ c.requires.0 c.args.f.0 in placed_all _ _ c.requires.0 _ _ _ c.loop-s.s _ c.requires.1 (omega (arith, c.statements-n.ensures)) c.loop-s.invariant.0 c.loop-s.invariant.1
