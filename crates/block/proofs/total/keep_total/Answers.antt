-- `block::total::keep_total` meets its contract: a copy of the context, and then of the records.
use Rattle.block.proofs.Making.{total_kept}
use Rattle.block.proofs.total.keep_total.Goals as goal

pub returns : goal.returns
returns c = total_kept c.records_of-r.ensures c.requires c.copy_context.ensures c.extend.ensures
