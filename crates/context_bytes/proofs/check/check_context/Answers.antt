-- `context_bytes::check::check_context` meets its contract: one law for each way.
use Rattle.std.proofs.lemmas.List.{take_rest}
use Rattle.request.proofs.ContextLists.{context_inside}
use Rattle.context_bytes.proofs.Lists.{no_record, no_return, status_read}
use Rattle.request.proofs.Ways.{there, missing, refuses}
use Rattle.context_bytes.proofs.check.check_context.Goals as goal

pub returns-then-not-is_context : goal.returns-then-not-is_context
returns-then-not-is_context c = no_record _ _ _ _ c.is_context.ensures c.if-not-is_context.true

pub slice_bounds-skip_return-count : goal.slice_bounds-skip_return-count
slice_bounds-skip_return-count c = context_inside 0 0 0 c.args.bytes.now c.is_context.ensures c.if-not-is_context.false

pub slice_bounds-skip_return-start : goal.slice_bounds-skip_return-start
slice_bounds-skip_return-start c = context_inside 0 0 0 c.args.bytes.now c.is_context.ensures c.if-not-is_context.false

pub returns-in_err-lists : goal.returns-in_err-lists
returns-in_err-lists c =
    rw (refuses _ c.from_residual.ensures.1 c.ok_or.ensures.value c.in_err-lists.was)
    (no_return _ _ _ _ c.is_context.ensures c.if-not-is_context.false (rw (missing c.ok_or.ensures.ok_part c.in_err-lists.was, take_rest c.args.bytes.now 6) at c.skip_return.ensures))

pub returns : goal.returns
returns c =
    status_read _ _ _ _ c.is_context.ensures c.if-not-is_context.false
    (rw (there c.ok_or.ensures.ok_part c.in_ok-lists.was, take_rest c.args.bytes.now 6) at c.skip_return.ensures) c.check_lists.ensures
