-- `module::record::body` meets its contract.
use mathlib.Core.Path.{sym, ◌∙◌}
use Rattle.module.proofs.Fields.{body_field, body_past}
use Rattle.module.proofs.record.body.Goals as goal

pub returns-then-i-n : goal.returns-then-i-n
returns-then-i-n c = c.get-then-i-n.ensures ∙ sym (body_field _ _ _ (rw c.get.ensures at c.if-i-n.true))

pub returns : goal.returns
returns c = sym (body_past _ _ _ (rw c.get.ensures at c.if-i-n.false))
