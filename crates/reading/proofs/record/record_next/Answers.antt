-- `reading::record::record_next` meets its contract: by what is left of the bytes, and the mark.
use Rattle.reading.proofs.Stepping.{no_header, cut_off, no_mark, then_mark}
use native.Mathlib.Omega.{arith}
use Rattle.reading.proofs.record.record_next.Goals as goal

pub returns-then-left-lt4-clause-step : goal.returns-then-left-lt4-clause-step
returns-then-left-lt4-clause-step c = no_header _ _ _ _ _ (omega arith)

pub returns-then-left-get-clause-step : goal.returns-then-left-get-clause-step
returns-then-left-get-clause-step c = cut_off _ _ _ _ (omega arith) _ (omega (arith, c.get.ensures))

pub returns-in_default-clause-step : goal.returns-in_default-clause-step
returns-in_default-clause-step c =
    no_mark _ _ _ _ (omega arith) (omega (arith, c.get.ensures)) _ _ c.get-2.ensures c.mark_of.ensures _ c.in_default.is

pub returns-clause-step : goal.returns-clause-step
returns-clause-step c =
    then_mark _ _ _ _ (omega (arith, c.if-left-lt4.false)) (omega (arith, c.get.ensures, c.if-left-lt4.false, c.if-left-get.false)) _ _ c.get-2.ensures c.mark_of.ensures _ _ _ _ c.in-Some.is c.mark_next.ensures.step
