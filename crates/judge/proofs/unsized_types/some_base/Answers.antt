-- `judge::unsized_types::some_base` meets its contract. The invariant: none of the first i is marked.
use Rattle.judge.proofs.Unsized.{unmarked_none, some-found, unmarked_next, unmarked_all}
use native.Mathlib.Omega.{arith}
use Rattle.judge.proofs.unsized_types.some_base.Goals as goal

pub loop-i-init : goal.loop-i-init
loop-i-init c = unmarked_none _ _

pub base_at-b-requires : goal.base_at-b-requires
base_at-b-requires c = omega (arith, c.loop-i-test.true, c.base_count-n.ensures)

pub returns-then-is_marked : goal.returns-then-is_marked
returns-then-is_marked c =
    some-found _ _ (omega (arith, c.loop-i-test.true, c.base_count-n.ensures)) c.base_at-b.ensures c.is_marked.ensures c.if-is_marked.true

pub loop-i-preserved : goal.loop-i-preserved
loop-i-preserved c =
    unmarked_next _ _ (omega (arith, c.loop-i-test.true, c.base_count-n.ensures)) c.base_at-b.ensures c.is_marked.ensures c.if-is_marked.false c.loop-i.invariant

pub returns : goal.returns
returns c = unmarked_all _ _ c.base_count-n.ensures c.loop-i-test.false c.loop-i.invariant
