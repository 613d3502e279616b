-- `asks::arms::letters` meets its contract: letter by letter. Assumes nothing.
use mathlib.Core.Path.{◌∙◌}
use Rattle.asks.proofs.Telling.{letter_filled, lettered}
use Rattle.asks.proofs.arms.letters.Goals as goal

pub returns : goal.returns
returns c =
    lettered
    (c.unwrap_or-a.ensures ∙ letter_filled _ _ _ _ c.letter.ensures)
    (c.unwrap_or-b.ensures ∙ letter_filled _ _ _ _ c.letter-2.ensures)
    (c.unwrap_or-c.ensures ∙ letter_filled _ _ _ _ c.letter-3.ensures)
    (c.unwrap_or-d.ensures ∙ letter_filled _ _ _ _ c.letter-4.ensures)
