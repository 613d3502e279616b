-- `access::whole::types` meets its contract.
use mathlib.Core.Path.{◌∙◌}
use Rattle.access.proofs.Access.{types_are}
use Rattle.access.proofs.whole.types.Goals as goal

pub returns : goal.returns
returns c = λ bytes. c.word.ensures ∙ types_are _ bytes
