-- `context_bytes::starts::lists_cover` meets its contract: one law for each way.
use mathlib.Core.Path.{◌∙◌}
use Rattle.context_bytes.proofs.Starting.{lists_first, lists_both}
use Rattle.context_bytes.proofs.starts.lists_cover.Goals as goal

pub returns-in_default : goal.returns-in_default
returns-in_default c = lists_first _ _ _ c.in_default.ensures

pub returns : goal.returns
returns c = c.is_some.ensures ∙ lists_both _ _ _ c.in-Some.ensures _ c.covers_variables-2.ensures
