-- `context_bytes::count::count_context` meets its contract: none without the header.
use Rattle.request.proofs.ContextLists.{context_inside}
use Rattle.context_bytes.proofs.Counted.{no_frame}
use Rattle.context_bytes.proofs.count.count_context.Goals as goal

pub returns-then-not-is_context : goal.returns-then-not-is_context
returns-then-not-is_context c = no_frame _ c.is_context.ensures c.if-not-is_context.true

pub count_lists-requires : goal.count_lists-requires
count_lists-requires c = context_inside 0 0 0 c.args.bytes.now c.is_context.ensures c.if-not-is_context.false

pub returns : goal.returns
returns c = rw c.unwrap_or.ensures c.count_lists.ensures
