-- `access::whole::globals` meets its contract.
use mathlib.Core.Path.{◌∙◌}
use Rattle.access.proofs.Access.{globals_are}
use Rattle.access.proofs.whole.globals.Goals as goal

pub returns : goal.returns
returns c = λ bytes. c.word.ensures ∙ globals_are _ bytes
