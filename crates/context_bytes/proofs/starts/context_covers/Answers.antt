-- `context_bytes::starts::context_covers` meets its contract: one law for each way.
use Rattle.std.proofs.lemmas.List.{take_rest}
use Rattle.request.proofs.ContextLists.{context_inside}
use Rattle.context_bytes.proofs.Starting.{start_expression, start_unframed, start_no_return, start_lists}
use Rattle.context_bytes.proofs.starts.context_covers.Goals as goal

pub returns-then-needs_expression : goal.returns-then-needs_expression
returns-then-needs_expression c = start_expression _ _ _ c.needs_expression.ensures c.if-needs_expression.true

pub returns-then-not-is_context : goal.returns-then-not-is_context
returns-then-not-is_context c = start_unframed _ _ _ c.is_context.ensures c.if-not-is_context.true

pub slice_bounds-skip_return-count : goal.slice_bounds-skip_return-count
slice_bounds-skip_return-count c = context_inside 0 0 0 c.args.context.now c.is_context.ensures c.if-not-is_context.false

pub slice_bounds-skip_return-start : goal.slice_bounds-skip_return-start
slice_bounds-skip_return-start c = context_inside 0 0 0 c.args.context.now c.is_context.ensures c.if-not-is_context.false

pub returns-in_default : goal.returns-in_default
returns-in_default c = start_no_return _ _ _ (rw (take_rest c.args.context.now 6) at c.in_default.ensures)

pub returns : goal.returns
returns c =
    start_lists _ _ _ (rw (take_rest c.args.context.now 6) at c.in-Some.ensures) c.needs_expression.ensures c.if-needs_expression.false c.subpart-g.ensures c.subpart-a.ensures c.lists_cover.ensures
