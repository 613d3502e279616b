-- `contains` meets its contract. Each turn of the loop keeps the answer (`Along`); the left piece's number falls, along the list and into an entry.
use mathlib.Core.Path.{sym, ◌∙◌}
use native.Mathlib.Omega.{arith}
use Rattle.part.proofs.Reading.{along_same, along_left, along_all, along_exist, along_none, along_gt, along_not, along_both, along_next}
use Rattle.part.proofs.req.+contains.Goals as goal

pub returns-then-m-n : goal.returns-then-m-n
returns-then-m-n t c = along_same c.loop-n.invariant c.if-m-n.true

pub returns-then-m-le-EMPTY_PIECE : goal.returns-then-m-le-EMPTY_PIECE
returns-then-m-le-EMPTY_PIECE t c = along_left c.loop-n.invariant c.requires.good (omega (arith, c.if-m-le-EMPTY_PIECE.true)) c.loop-n-test.true

pub returns-then-y-x : goal.returns-then-y-x
returns-then-y-x t c = along_gt c.loop-n.invariant c.look-x.ensures c.look-y.ensures c.if-y-x.true

pub returns-then-not-contains : goal.returns-then-not-contains
returns-then-not-contains t c =
    along_not c.loop-n.invariant c.look-x.ensures c.look-y.ensures c.if-x-y.true (sym c.contains.ensures ∙ c.if-not-contains.true)

pub loop-n-preserved-else-not-contains : goal.loop-n-preserved-else-not-contains
loop-n-preserved-else-not-contains t c =
    along_both c.loop-n.invariant c.look-x.ensures c.look-y.ensures c.if-x-y.true (sym c.contains.ensures ∙ c.if-not-contains.false)

pub loop-n-preserved : goal.loop-n-preserved
loop-n-preserved t c =
    along_next c.loop-n.invariant c.look-x.ensures c.look-y.ensures c.if-y-x.false c.if-x-y.false

pub returns-then-n-eq-ALL_PIECE : goal.returns-then-n-eq-ALL_PIECE
returns-then-n-eq-ALL_PIECE t c = along_all c.loop-n.invariant c.if-n-eq-ALL_PIECE.true

pub returns-then-n-eq-EXIST_PIECE : goal.returns-then-n-eq-EXIST_PIECE
returns-then-n-eq-EXIST_PIECE t c = along_exist c.loop-n.invariant c.if-n-eq-EXIST_PIECE.true

pub returns : goal.returns
returns t c = along_none c.loop-n.invariant c.loop-n-test.false c.if-n-eq-ALL_PIECE.false c.if-n-eq-EXIST_PIECE.false
