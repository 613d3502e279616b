-- `operands::operators::ask_select` meets its contract.
use mathlib.Core.Path.{refl}
use mathlib.Core.List.{[], ◌∷◌}
use Rattle.operands.proofs.Lists.{all_full, same_then, list_then}
use Rattle.operands.proofs.operators.ask_select.Goals as goal

pub returns-in_err-ask_same : goal.returns-in_err-ask_same
returns-in_err-ask_same c =
    rw c.from_residual.ensures
    (all_full c.in_err-ask_same.ensures (_ ∷ _ ∷ []) refl)

pub returns-in_err-ask_same-2 : goal.returns-in_err-ask_same-2
returns-in_err-ask_same-2 c =
    rw c.from_residual-in_err-ask_same-2.ensures
    (all_full (same_then c.in_ok-ask_same.ensures refl c.requires c.in_err-ask_same-2.ensures) (_ ∷ []) refl)

pub returns : goal.returns
returns c =
    list_then (same_then c.in_ok-ask_same.ensures refl c.requires c.in_ok-ask_same-2.ensures) refl c.requires c.ask_whole.ensures
