-- `module::operands::operands` meets its contract: what is left of the shape and of the fields gives the whole.
use mathlib.Core.Path.{refl, sym, ◌∙◌}
use borrow.Author.Tests.{eq-eqb, ne_eqb}
use Rattle.module.proofs.Shaped.{shape_again, shape_stops, shape_done}
use Rattle.module.proofs.operands.operands.Goals as goal

pub returns-in_err-left-clause-value : goal.returns-in_err-left-clause-value
returns-in_err-left-clause-value c =
    rw c.from_residual.ensures (shape_stops c.loop-k.invariant c.args.scope.now.bytes.now _ _ c.loop-k-test.true c.class_of-class.ensures c.in_err-left.ensures.took c.in_err-left.ensures.stamped refl).0

pub loop-k-preserved : goal.loop-k-preserved
loop-k-preserved c =
    shape_again c.loop-k.invariant c.args.scope.now.bytes.now _ _ c.loop-k-test.true c.class_of-class.ensures c.in_ok-left.ensures.took c.in_ok-left.ensures.stamped {f = c.in_ok-left.left} refl

pub returns-then-left-eq0-clause-value : goal.returns-then-left-eq0-clause-value
returns-then-left-eq0-clause-value c =
    sym (eq-eqb _ _ c.if-left-eq0.true) ∙ (shape_done c.loop-k.invariant c.args.scope.now.bytes.now c.loop-k.left refl c.loop-k-test.false).0

pub returns-clause-value : goal.returns-clause-value
returns-clause-value c =
    sym (ne_eqb _ _ c.if-left-eq0.false) ∙ (shape_done c.loop-k.invariant c.args.scope.now.bytes.now c.loop-k.left refl c.loop-k-test.false).0
