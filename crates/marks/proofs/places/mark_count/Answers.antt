-- `marks::places::mark_count` meets its contract, kind by kind.
use Rattle.std.proofs.Common.{rules, sym, ◌≡◌}
use Rattle.module.specs.Decode.{statement_of}
use Rattle.module.specs.Marks.{mark_count}
use Rattle.marks.proofs.Counts.{mark_none, mark_one, counted_emit, counted}
use Rattle.marks.proofs.places.mark_count.Goals as goal

pub returns-in-Ok-Emit : goal.returns-in-Ok-Emit
returns-in-Ok-Emit c =
    counted_emit _ _ _ _ _ c.statement-row.ensures _ _ _ (search rules) c.operand.ensures c.operand-in-Ok-Emit.ensures c.range_count.ensures

pub returns-in-Ok-Call : goal.returns-in-Ok-Call
unfolding mark_count statement_of
returns-in-Ok-Call c = counted _ _ _ _ _ c.statement-row.ensures _ (let e : c.statement-row.result.kind ≡ 14 = search rules in λ o. rw e)

pub returns-in-Ok-Block : goal.returns-in-Ok-Block
returns-in-Ok-Block c =
    counted _ _ _ _ _ c.statement-row.ensures _ (λ o. mark_none _ o (search rules) (search rules) (λ l. search rules))

pub returns-in_default : goal.returns-in_default
returns-in_default c =
    counted _ _ _ _ _ c.statement-row.ensures _
    (λ o. sym (mark_one _ o (record { emit = search rules; block = search rules; kill = search rules; control = search rules; memory = search rules; call = search rules })))

pub returns-in_default-2 : goal.returns-in_default-2
returns-in_default-2 c =
    counted _ _ _ _ _ c.statement-row.ensures _
    (λ o. sym (mark_one _ o (record { emit = search rules; block = search rules; kill = search rules; control = search rules; memory = search rules; call = search rules })))
