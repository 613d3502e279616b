-- `asks::arms::constant` meets its contract. Assumes nothing.
use mathlib.Core.Path.{sym, ◌∙◌}
use Rattle.asks.proofs.Telling.{constant_after, constant_all, constant_exist, constant_refused}
use Rattle.asks.proofs.arms.constant.Goals as goal

pub returns-then-j-gt0 : goal.returns-then-j-gt0
returns-then-j-gt0 c = constant_after _ _ c.if-j-gt0.true

pub returns-then-is_all : goal.returns-then-is_all
returns-then-is_all c = constant_all _ _ (sym c.if-is_all.true ∙ c.is_all.ensures)

pub returns-then-is_exist : goal.returns-then-is_exist
returns-then-is_exist c = constant_exist _ _ (sym c.if-is_exist.true ∙ c.is_exist.ensures)

pub returns : goal.returns
returns c =
    constant_refused _ _ c.if-j-gt0.false (sym c.if-is_all.false ∙ c.is_all.ensures) (sym c.if-is_exist.false ∙ c.is_exist.ensures)
