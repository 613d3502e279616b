-- `bindings_request::listed::set_of` meets its contract: from the last of the list to the first.
use Rattle.bindings_request.proofs.Sets.{reading_none, reading_malformed, reading_more, reading_all}
use Rattle.bindings_request.proofs.listed.set_of.Goals as goal

pub loop-x-init : goal.loop-x-init
loop-x-init c = reading_none (rw (c.into_iter-x-iterator.ensures.into_iter_gives, c.rev-x-items.ensures.source) c.iter.ensures.rest)

pub returns-then-after-b : goal.returns-then-after-b
returns-then-after-b c = reading_malformed c.loop-x.invariant _ _ c.in-Some.ensures.steps c.from-b.ensures c.if-after-b.true

pub loop-x-preserved : goal.loop-x-preserved
loop-x-preserved c =
    reading_more c.loop-x.invariant _ _ c.in-Some.ensures.steps c.from-b.ensures c.if-after-b.false c.own_binding-own.ensures

pub returns : goal.returns
returns c = reading_all c.loop-x.invariant c.in-None.ensures.steps.0
