-- `tickingtor_check` meets its contract: it is the number of what `check_any` answers.
use mathlib.Core.Path.{ap, ◌∙◌}
use Rattle.checking.specs.Word.{check_word}
use Rattle.tickingtor.proofs.check.tickingtor_check.Goals as goal

pub returns : goal.returns
returns c = c.from.ensures ∙ ap check_word c.check_any.ensures
