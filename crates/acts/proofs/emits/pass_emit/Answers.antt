-- `acts::emits::pass_emit` meets its contract: marked, idle, or walked and blamed (Marked).
use mathlib.Core.Path.{refl}
use Rattle.acts.proofs.Marked.{above_asks, marked_on, marked_full, obeys_on, breaks_full, breaks_on}
use Rattle.acts.proofs.emits.pass_emit.Goals as goal

pub returns-then-marked : goal.returns-then-marked
returns-then-marked c =
    marked_on c.requires.pass_given.ready _ c.in_ok-act_emit.ensures c.if-marked.true c.requires.pass_given.going refl

pub returns-in_err-act_emit : goal.returns-in_err-act_emit
returns-in_err-act_emit c =
    rw c.from_residual.ensures
    (marked_full c.requires.pass_given.ready _ c.in_err-act_emit.ensures c.if-marked.true refl refl)

pub returns-then-emit_idle : goal.returns-then-emit_idle
returns-then-emit_idle c =
    obeys_on c.requires.pass_given.ready _ c.emit_idle.ensures c.if-marked.false c.requires.pass_given.going c.if-emit_idle.true

pub returns-in_err-act_emit-2 : goal.returns-in_err-act_emit-2
returns-in_err-act_emit-2 c =
    rw c.from_residual-in_err-act_emit-2.ensures
    (breaks_full c.requires.pass_given.ready _ c.emit_idle.ensures c.if-emit_idle.false (above_asks c.requires.pass_given).1 c.copy.ensures c.in_err-act_emit-2.ensures c.if-marked.false refl refl)

pub returns : goal.returns
returns c =
    breaks_on c.requires.pass_given.ready _ c.emit_idle.ensures c.if-emit_idle.false (above_asks c.requires.pass_given).1 c.copy.ensures c.in_ok-act_emit-2.ensures c.if-marked.false c.requires.pass_given.going refl c.blame.ensures c.copy-2.ensures
