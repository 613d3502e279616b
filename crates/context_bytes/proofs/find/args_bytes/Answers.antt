-- `context_bytes::find::args_bytes` meets its contract: all of the bytes without the header.
use Rattle.request.proofs.Bytes.{tail_all}
use Rattle.request.proofs.ContextLists.{context_inside}
use Rattle.context_bytes.proofs.Found.{args_unframed, args_unread}
use Rattle.context_bytes.proofs.find.args_bytes.Goals as goal

pub returns-then-not-is_context : goal.returns-then-not-is_context
returns-then-not-is_context c = args_unframed _ (tail_all _) c.is_context.ensures c.if-not-is_context.true

pub after_globals-requires : goal.after_globals-requires
after_globals-requires c = context_inside 0 0 0 c.args.bytes.now c.is_context.ensures c.if-not-is_context.false

pub returns : goal.returns
returns c = rw c.unwrap_or.ensures (args_unread _ c.after_globals.result (tail_all _) c.after_globals.ensures)
