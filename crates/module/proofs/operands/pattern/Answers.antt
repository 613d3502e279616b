-- `module::operands::pattern` meets its contract.
use mathlib.Core.Path.{sym, ◌∙◌}
use Rattle.module.specs.Operands.{pattern_after}
use Rattle.module.specs.Scan.{pass_of}
use Rattle.module.proofs.Counted.{counted_none, counted-by, pattern_low, pattern_high, pattern_is}
use Rattle.module.proofs.operands.pattern.Goals as goal

pub returns-in_err-count-clause-took : goal.returns-in_err-count-clause-took
returns-in_err-count-clause-took c = rw c.from_residual.ensures (counted_none _ c.in_err-count.ensures.split)

pub returns-then-count-lt2-clause-took : goal.returns-then-count-lt2-clause-took
returns-then-count-lt2-clause-took c =
    counted-by pattern_after c.in_ok-count.ensures.split (sym (pattern_low _ _ c.if-count-lt2.true))

pub returns-then-count-gt4-clause-took : goal.returns-then-count-gt4-clause-took
returns-then-count-gt4-clause-took c =
    counted-by pattern_after c.in_ok-count.ensures.split (sym (pattern_high _ _ c.if-count-lt2.false c.if-count-gt4.true))

pub returns-clause-took : goal.returns-clause-took
unfolding pass_of
returns-clause-took c =
    counted-by pattern_after c.in_ok-count.ensures.split (c.many.ensures.took ∙ sym (pattern_is _ _ c.if-count-lt2.false c.if-count-gt4.false))

pub returns-clause-ends : goal.returns-clause-ends
returns-clause-ends c = rw c.in_ok-count.ensures.ends at c.many.ensures.ends
