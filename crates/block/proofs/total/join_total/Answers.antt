-- `block::total::join_total` meets its contract: the sum of both contexts, and then a copy of the records.
use mathlib.Core.Path.{◌∙◌}
use Rattle.block.proofs.Saving.{loaded, none_over}
use Rattle.block.proofs.Making.{joined_asks, total_joins, total_joined}
use native.Mathlib.Omega.{arith}
use Rattle.block.proofs.total.join_total.Goals as goal

pub merge-joined-requires : goal.merge-joined-requires
merge-joined-requires c =
    let q9 = total_joins c.requires.totalling c.requires.memory (loaded c.load_context-total.ensures) (loaded c.load_context-walked.ensures) c.requires.room in
    record { good = q9.0; has_context = q9.1.0; room = q9.1.1 }

pub overflow_add-from : goal.overflow_add-from
overflow_add-from c = omega (arith, c.requires.totalling.items, c.records_of-r.ensures.from)

pub overflow_add-from-2 : goal.overflow_add-from-2
overflow_add-from-2 c = omega (arith, c.requires.totalling.items, c.records_of-r.ensures.from)

pub extend-requires : goal.extend-requires
extend-requires c =
    joined_asks c.records_of-r.ensures c.requires.totalling _ c.merge-joined.result c.save_context.ensures

pub returns : goal.returns
returns c =
    total_joined c.requires.totalling c.requires.memory (loaded c.load_context-total.ensures) (loaded c.load_context-walked.ensures) c.merge-joined.result c.records_of-r.ensures c.merge-joined.ensures c.save_context.ensures c.extend.ensures (none_over _ c.then_some.ensures ∙ c.over.ensures)
