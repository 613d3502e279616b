-- `bindings_request::needed::type_bindings` meets its contract: by whether all is needed.
use mathlib.Core.Path.{sym, ◌∙◌}
use Rattle.bindings_request.proofs.Arguments.{found_all, found_step}
use Rattle.bindings_request.proofs.needed.type_bindings.Goals as goal

pub returns-then-is_all : goal.returns-then-is_all
returns-then-is_all c =
    c.set_at.ensures ∙ found_all _ _ c.requires _ (sym c.is_all.ensures ∙ c.if-is_all.true)

pub returns : goal.returns
returns c =
    c.type_step.ensures ∙ found_step _ _ c.requires _ (sym c.is_all.ensures ∙ c.if-is_all.false)
