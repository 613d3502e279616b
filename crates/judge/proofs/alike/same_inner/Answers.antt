-- `judge::alike::same_inner` meets its contract: by the answer for the kinds.
use mathlib.Core.Path.{◌∙◌}
use Rattle.judge.proofs.Steps.{inner_bases, inner_differs}
use Rattle.judge.proofs.alike.same_inner.Goals as goal

pub returns-then-same_kind : goal.returns-then-same_kind
returns-then-same_kind c = inner_bases _ _ _ c.same_kind.ensures c.if-same_kind.true c.same_bases.ensures

pub returns-else-same_kind : goal.returns-else-same_kind
returns-else-same_kind c = c.if-same_kind.false ∙ inner_differs _ _ _ c.same_kind.ensures c.if-same_kind.false
