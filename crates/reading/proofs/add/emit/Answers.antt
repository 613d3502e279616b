-- `reading::add::emit` meets its contract: mark by mark, what is left to set gives the whole.
use mathlib.Core.Path.{refl, ◌∙◌}
use Rattle.reading.proofs.Marking.{length-mark_from, mark_again, mark_done, is_emit, no_emit}
use native.Mathlib.Omega.{arith}
use Rattle.reading.proofs.add.emit.Goals as goal

pub loop-e-init : goal.loop-e-init
loop-e-init c = refl

pub loop-e-preserved : goal.loop-e-preserved
loop-e-preserved c = mark_again _ _ _ _ _ (omega (arith, c.loop-e-test.true)) c.put.ensures c.loop-e.invariant

pub shape_of-t : goal.shape_of-t
shape_of-t c = rw (mark_done _ _ _ _ (omega (arith, c.loop-e-test.false)) c.loop-e.invariant) (length-mark_from _ _ _)

pub returns-after-loop-e : goal.returns-after-loop-e
returns-after-loop-e c =
    mark_done _ _ _ _ (omega (arith, c.loop-e-test.false)) c.loop-e.invariant ∙ is_emit _ _ _ c.field.ensures _ _ c.if-field.true c.field-first.ensures c.field-last.ensures

pub returns-else-field : goal.returns-else-field
returns-else-field c = no_emit _ _ _ c.field.ensures c.if-field.false
