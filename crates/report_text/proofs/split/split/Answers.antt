-- `report_text::split::split` meets its contract. Up to `at` there is no request.
use Rattle.report_text.proofs.Splitting.{passed_none, passed_found, passed_end, passed_cut, passed_next}
use mathlib.Core.Path.{sym, ◌∙◌}
use native.Mathlib.Omega.{arith}
use Rattle.report_text.proofs.split.split.Goals as goal

pub loop-at-init : goal.loop-at-init
loop-at-init c = passed_none c.args.input.now

pub returns-then-starts_with : goal.returns-then-starts_with
returns-then-starts_with c =
    passed_found c.loop-at.invariant c.loop-at-test.true (sym c.starts_with.ensures.value ∙ c.if-starts_with.true)

pub returns-then-n-at : goal.returns-then-n-at
returns-then-n-at c =
    passed_cut c.loop-at.invariant c.loop-at-test.true (c.type_inv.input c.loop-at.at).fits (sym c.starts_with.ensures.value ∙ c.if-starts_with.false) (omega (arith, c.if-n-at.true, c.get.ensures))

pub loop-at-preserved : goal.loop-at-preserved
loop-at-preserved c =
    rw c.get.ensures (passed_next c.loop-at.invariant c.loop-at-test.true (c.type_inv.input c.loop-at.at).fits (sym c.starts_with.ensures.value ∙ c.if-starts_with.false) (omega (arith, c.if-n-at.false, c.get.ensures)))

pub returns : goal.returns
returns c = passed_end c.loop-at.invariant (omega (arith, c.loop-at-test.false))
