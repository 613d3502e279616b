-- `operands::operators::ask_both_same` meets its contract.
use mathlib.Core.Path.{refl}
use mathlib.Core.List.{[], ◌∷◌}
use Rattle.operands.proofs.Lists.{given_right, all_full, same_next, same_then}
use Rattle.operands.proofs.operators.ask_both_same.Goals as goal

pub ask_same-requires : goal.ask_same-requires
ask_same-requires c = given_right (_ ∷ []) c.requires

pub ask_same-requires-2 : goal.ask_same-requires-2
ask_same-requires-2 c = same_next c.in_ok-ask_same.ensures refl [] c.requires

pub returns : goal.returns
returns c = same_then c.in_ok-ask_same.ensures refl c.requires c.ask_same-2.ensures

pub returns-in_err-ask_same : goal.returns-in_err-ask_same
returns-in_err-ask_same c = rw c.from_residual.ensures (all_full c.in_err-ask_same.ensures (_ ∷ []) refl)
