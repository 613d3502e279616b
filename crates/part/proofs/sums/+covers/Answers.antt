-- `covers` meets its contract. Each turn of the loop keeps the answer (`Covering`); the left piece's number falls, along the list and into an entry.
use mathlib.Core.Path.{sym, ◌∙◌}
use Rattle.part.proofs.Covering.{covered_same, covered_known, known_asks, covered_yes, equal_yes, covered_gt, covering_next, covered_not, covering_both}
use Rattle.part.proofs.sums.+covers.Goals as goal

pub returns-then-a-b : goal.returns-then-a-b
returns-then-a-b t c = covered_same (c.requires.good, c.requires.a_bound) c.if-a-b.true

pub returns-in-Some : goal.returns-in-Some
returns-in-Some t c = covered_known (c.requires.good, c.requires.a_bound) c.recall.ensures c.in-Some.is

pub remember-requires : goal.remember-requires
remember-requires t c =
    let q9 = known_asks (c.requires.good, c.requires.a_bound) c.loop-n.invariant (equal_yes (c.requires.good, c.requires.a_bound) c.loop-n.invariant c.if-m-n.true) in
    record { good = q9.0; known = q9.1 }

pub returns-then-m-n : goal.returns-then-m-n
returns-then-m-n t c =
    covered_yes (c.requires.good, c.requires.a_bound) c.loop-n.invariant (equal_yes (c.requires.good, c.requires.a_bound) c.loop-n.invariant c.if-m-n.true) c.remember.ensures

pub returns-then-y-x : goal.returns-then-y-x
returns-then-y-x t c =
    covered_gt (c.requires.good, c.requires.a_bound) c.loop-n.invariant c.look-x.ensures c.look-y.ensures c.if-y-x.true

pub returns-then-not-covers : goal.returns-then-not-covers
returns-then-not-covers t c =
    covered_not (c.requires.good, c.requires.a_bound) c.loop-n.invariant c.look-x.ensures c.look-y.ensures c.if-x-y.true c.covers.ensures c.if-not-covers.true

pub loop-n-preserved-else-not-covers : goal.loop-n-preserved-else-not-covers
loop-n-preserved-else-not-covers t c =
    covering_both (c.requires.good, c.requires.a_bound) c.loop-n.invariant c.look-x.ensures c.look-y.ensures c.if-x-y.true c.covers.ensures c.if-not-covers.false

pub loop-n-preserved : goal.loop-n-preserved
loop-n-preserved t c =
    covering_next (c.requires.good, c.requires.a_bound) c.loop-n.invariant c.look-x.ensures c.look-y.ensures c.if-y-x.false c.if-x-y.false

pub remember-requires-2 : goal.remember-requires-2
remember-requires-2 t c =
    let q9 = known_asks (c.requires.good, c.requires.a_bound) c.loop-n.invariant (sym c.contains-2.ensures ∙ c.if-not-contains.false) in
    record { good = q9.0; known = q9.1 }
