-- `check_part` meets its contract. The invariant: what is left of the part, with what is needed there, gives the whole. The measure is the piece's number.
use borrow.Author.Rules.{rules}
use native.Mathlib.Omega.{arith}
use Rattle.target.proofs.Checking.{checking_none, checked_all, checked_gone, checking_next, checked_part, checked_exist, checked_whole}
use Rattle.target.proofs.store.check_part.Goals as goal

pub returns-in_err-whole : goal.returns-in_err-whole
returns-in_err-whole c = rw c.from_residual.ensures (checking_none _ _ _ c.in_err-whole.was)

pub returns-then-p-eq-ALL_PIECE : goal.returns-then-p-eq-ALL_PIECE
returns-then-p-eq-ALL_PIECE c =
    checked_all c.in_ok-whole.was c.loop-n.invariant c.look-x.ensures c.requires.good c.if-p-eq-ALL_PIECE.true

pub returns-in_err-p : goal.returns-in_err-p
returns-in_err-p c =
    rw c.from_residual-in_err-p.ensures
    (checked_gone c.in_ok-whole.was c.loop-n.invariant c.look-x.ensures c.if-p-eq-ALL_PIECE.false c.get.ensures c.in_err-p.was)

pub loop-n-preserved : goal.loop-n-preserved
loop-n-preserved c =
    checking_next c.in_ok-whole.was c.loop-n.invariant c.look-x.ensures c.if-p-eq-ALL_PIECE.false c.get.ensures c.in_ok-p.was

pub returns-then-n-ne-ALL_PIECE : goal.returns-then-n-ne-ALL_PIECE
returns-then-n-ne-ALL_PIECE c = checked_part c.in_ok-whole.was c.loop-n.invariant (omega (arith, c.if-n-ne-ALL_PIECE.true)) c.loop-n-test.false

pub returns-then-p-eq-EXIST_PIECE : goal.returns-then-p-eq-EXIST_PIECE
returns-then-p-eq-EXIST_PIECE c = checked_exist c.in_ok-whole.was c.loop-n.invariant (omega (arith, c.if-n-ne-ALL_PIECE.false)) c.if-p-eq-EXIST_PIECE.true

pub returns : goal.returns
returns c = checked_whole c.in_ok-whole.was c.loop-n.invariant (omega (arith, c.if-n-ne-ALL_PIECE.false)) (search rules)
