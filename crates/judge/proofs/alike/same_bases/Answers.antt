-- `judge::alike::same_bases` meets its contract. The invariant: the first i are alike by the table.
use Rattle.judge.proofs.Steps.{compared_none, lengths_differ, entries_differ, compared_next, compared_all}
use native.Mathlib.Omega.{arith}
use Rattle.judge.proofs.alike.same_bases.Goals as goal

pub returns-then-n-base_count : goal.returns-then-n-base_count
returns-then-n-base_count c = lengths_differ _ _ _ c.base_count-n.ensures c.base_count.ensures c.if-n-base_count.true

pub loop-i-init : goal.loop-i-init
loop-i-init c = compared_none _ _ _

pub base_at-x-requires : goal.base_at-x-requires
base_at-x-requires c = omega (arith, c.loop-i-test.true, c.base_count-n.ensures)

pub base_at-y-requires : goal.base_at-y-requires
base_at-y-requires c =
    omega (arith, c.loop-i-test.true, c.base_count-n.ensures, c.base_count.ensures, c.if-n-base_count.false)

pub returns-then-word : goal.returns-then-word
returns-then-word c =
    entries_differ _ _ _ (omega (arith, c.loop-i-test.true, c.base_count-n.ensures)) c.base_at-x.ensures c.base_at-y.ensures c.word.ensures c.word-in-loop-i.ensures c.if-word.true

pub loop-i-preserved : goal.loop-i-preserved
loop-i-preserved c =
    compared_next _ _ _ (omega (arith, c.loop-i-test.true, c.base_count-n.ensures)) c.base_at-x.ensures c.base_at-y.ensures c.word.ensures c.word-in-loop-i.ensures c.if-word.false c.loop-i.invariant

pub returns : goal.returns
returns c =
    compared_all _ _ _ c.base_count-n.ensures c.base_count.ensures c.if-n-base_count.false c.loop-i-test.false c.loop-i.invariant
