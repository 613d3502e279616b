-- `memory::want::digit` meets its contract. Assumes nothing.
use mathlib.Core.Path.{sym, ◌∙◌}
use Rattle.memory.proofs.FlatParts.{digit_all, digit_exist, digit_none}
use Rattle.memory.proofs.want.digit.Goals as goal

pub returns-then-is_all : goal.returns-then-is_all
returns-then-is_all c = digit_all _ (sym c.if-is_all.true ∙ c.is_all.ensures)

pub returns-then-is_exist : goal.returns-then-is_exist
returns-then-is_exist c = digit_exist _ (sym c.if-is_exist.true ∙ c.is_exist.ensures)

pub returns : goal.returns
returns c =
    digit_none _ (sym c.if-is_all.false ∙ c.is_all.ensures) (sym c.if-is_exist.false ∙ c.is_exist.ensures)
