-- `asks::arms::compose` meets its contract. Assumes nothing.
use mathlib.Core.Path.{sym, ◌∙◌}
use Rattle.asks.proofs.Telling.{compose_all, compose_all_past, compose_past, compose_entry, compose_refused}
use native.Mathlib.Omega.{arith}
use Rattle.asks.proofs.arms.compose.Goals as goal

pub returns-then-n-j : goal.returns-then-n-j
returns-then-n-j c =
    compose_all_past _ _ _ (sym c.if-is_all.true ∙ c.is_all.ensures) (omega (arith, c.if-n-j.true, c.operand-n.ensures))

pub returns-then-is_all : goal.returns-then-is_all
returns-then-is_all c =
    compose_all _ _ _ (sym c.if-is_all.true ∙ c.is_all.ensures) _ c.requires.0 (omega (arith, c.if-n-j.false, c.operand-n.ensures)) c.component-x.ensures c.want_of-all.ensures

pub returns-in_err-i : goal.returns-in_err-i
returns-in_err-i c =
    rw c.from_residual.ensures (compose_past _ _ _ (sym c.if-is_all.false ∙ c.is_all.ensures) (sym c.in_err-i.was ∙ c.entry.ensures))

pub returns-then-n-i : goal.returns-then-n-i
returns-then-n-i c =
    compose_refused _ _ _ (sym c.if-is_all.false ∙ c.is_all.ensures) (sym c.in_ok-i.was ∙ c.entry.ensures) (omega (arith, c.if-n-i.true, c.operand-n.ensures))

pub returns : goal.returns
returns c =
    compose_entry _ _ _ (sym c.if-is_all.false ∙ c.is_all.ensures) (sym c.in_ok-i.was ∙ c.entry.ensures) _ (omega (arith, c.if-n-i.false, c.operand-n.ensures)) c.component-x-2.ensures c.child-u.ensures
