-- `judge::alike::lowest` meets its contract. The invariant: no type below j is alike.
use Rattle.judge.proofs.Steps.{passed_none, passed_found, passed_next, passed_all}
use Rattle.judge.proofs.alike.lowest.Goals as goal

pub loop-j-init : goal.loop-j-init
loop-j-init c = passed_none _ c.requires.lower _

pub returns-then-same_inner : goal.returns-then-same_inner
returns-then-same_inner c =
    passed_found _ c.requires.lower _ _ c.requires.upto c.same_inner.ensures c.loop-j.invariant c.if-same_inner.true

pub loop-j-preserved : goal.loop-j-preserved
loop-j-preserved c =
    passed_next _ c.requires.lower _ _ c.requires.upto c.same_inner.ensures c.loop-j.invariant c.loop-j-test.true c.if-same_inner.false

pub returns : goal.returns
returns c = passed_all _ c.requires.lower _ c.loop-j-test.false c.loop-j.invariant
