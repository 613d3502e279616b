-- `operands::operators::ask_both_whole` meets its contract.
use mathlib.Core.Path.{refl}
use mathlib.Core.List.{[], ◌∷◌}
use Rattle.operands.proofs.Lists.{all_full, list_next, list_then}
use Rattle.operands.proofs.operators.ask_both_whole.Goals as goal

pub ask_whole-requires-2 : goal.ask_whole-requires-2
ask_whole-requires-2 c = list_next c.in_ok-ask_whole.ensures refl [] c.requires

pub returns : goal.returns
returns c = list_then c.in_ok-ask_whole.ensures refl c.requires c.ask_whole-2.ensures

pub returns-in_err-ask_whole : goal.returns-in_err-ask_whole
returns-in_err-ask_whole c = rw c.from_residual.ensures (all_full c.in_err-ask_whole.ensures (_ ∷ []) refl)
