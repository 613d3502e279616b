-- `send` meets its contract.
use mathlib.Core.Path.{◌∙◌}
use native.Mathlib.Omega.{arith}
use Rattle.part.proofs.Slides.{sent-low, sent-high}
use Rattle.part.proofs.collect.send.Goals as goal

pub returns-then-n-le-EMPTY_PIECE : goal.returns-then-n-le-EMPTY_PIECE
returns-then-n-le-EMPTY_PIECE c = sent-low _ _ (omega (arith, c.if-n-le-EMPTY_PIECE.true))

pub returns : goal.returns
returns c = c.word.ensures ∙ sent-high _ _ c.if-n-le-EMPTY_PIECE.false
