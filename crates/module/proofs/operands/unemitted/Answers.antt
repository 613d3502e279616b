-- `module::operands::unemitted` meets its contract: what is left of the expressions gives the whole.
use mathlib.Core.Path.{sym, ◌∙◌}
use Rattle.module.proofs.Counted.{unemitted_again, unemitted_stops, unemitted_done}
use native.Mathlib.Omega.{arith}
use Rattle.module.proofs.operands.unemitted.Goals as goal

pub returns-then-word-eq1 : goal.returns-then-word-eq1
returns-then-word-eq1 c =
    unemitted_stops c.loop-e.invariant (omega (arith, c.loop-e-test.true)) (sym c.word.ensures ∙ c.if-word-eq1.true)

pub loop-e-preserved : goal.loop-e-preserved
loop-e-preserved c =
    unemitted_again c.loop-e.invariant (omega (arith, c.loop-e-test.true)) (λ q. c.if-word-eq1.false (c.word.ensures ∙ q))

pub returns : goal.returns
returns c = unemitted_done c.loop-e.invariant (omega (arith, c.loop-e-test.false))
