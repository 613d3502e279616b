-- `access::whole::functions` meets its contract.
use mathlib.Core.Path.{◌∙◌}
use Rattle.access.proofs.Access.{functions_are}
use Rattle.access.proofs.whole.functions.Goals as goal

pub returns : goal.returns
returns c = λ bytes. c.word.ensures ∙ functions_are _ bytes
