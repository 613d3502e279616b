-- `quiet::plain::quiet_emits` meets its contract. The invariant: what is left says the whole.
use borrow.Author.Rules.{rules}
use Rattle.quiet.proofs.Leaves.{emits_stop, emits_next, emits_end}
use native.Mathlib.Omega.{arith}
use Rattle.quiet.proofs.plain.quiet_emits.Goals as goal

pub returns-then-not-emit_idle : goal.returns-then-not-emit_idle
returns-then-not-emit_idle c =
    emits_stop _ _ _ _ (omega (arith, c.loop-e-test.true)) c.loop-e.invariant c.emit_idle.ensures c.if-not-emit_idle.true

pub loop-e-preserved : goal.loop-e-preserved
loop-e-preserved c =
    emits_next _ _ _ _ (omega (arith, c.loop-e-test.true)) c.loop-e.invariant c.emit_idle.ensures c.if-not-emit_idle.false

pub returns : goal.returns
returns c = emits_end _ _ _ _ c.loop-e-test.false c.loop-e.invariant

pub returns-else-not-emit_idle : goal.returns-else-not-emit_idle
returns-else-not-emit_idle c =
    emits_end _ _ _ _ (search rules) (emits_next _ _ _ _ (omega (arith, c.loop-e-test.true)) c.loop-e.invariant c.emit_idle.ensures c.if-not-emit_idle.false)
