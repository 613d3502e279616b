-- `asks::fields::field_ask` meets its contract. The invariant: what is left of the fields gives the whole. Assumes nothing.
use Rattle.access.specs.Access.{handle_in}
use Rattle.asks.proofs.FieldAsks.{fields-end, fields_found, fields_later, fields_skip}
use Rattle.asks.proofs.Telling.{told_end, told_operand}
use Rattle.asks.proofs.fields.field_ask.Goals as goal
use Rattle.asks.proofs.fields.field_ask.Goals.{in-Some+else-skip-eq0, in_default}

pub returns-then-skip-eq0 : goal.returns-then-skip-eq0
unfolding handle_in
returns-then-skip-eq0 c =
    told_operand _ c.want_by.ensures (fields_found c.loop-k.invariant c.loop-k-test.true _ c.in-Some.ensures c.if-skip-eq0.true)

pub loop-k-preserved : goal.loop-k-preserved
unfolding handle_in
loop-k-preserved c =
    elim c.match-chosen.branch [
      | in-Some+else-skip-eq0 w ↦ fields_later c.loop-k.invariant c.loop-k-test.true _ w.in-Some.ensures w.if-skip-eq0.false w.skip-is
      | in_default w ↦ fields_skip c.loop-k.invariant c.loop-k-test.true _ (rw w.in_default.is at c.chosen.ensures) w.skip-is
    ]

pub returns : goal.returns
returns c = told_end (fields-end c.loop-k.invariant c.loop-k-test.false)
