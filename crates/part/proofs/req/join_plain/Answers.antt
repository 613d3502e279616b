-- `join_plain` meets its contract.
use Rattle.part.proofs.Making.{plain_all, plain_exist, plain_other}
use Rattle.part.proofs.req.join_plain.Goals as goal

pub returns-then-a-eq-ALL_PIECE : goal.returns-then-a-eq-ALL_PIECE
returns-then-a-eq-ALL_PIECE c = plain_all c.if-a-eq-ALL_PIECE.true

pub returns-then-b-eq-EXIST_PIECE : goal.returns-then-b-eq-EXIST_PIECE
returns-then-b-eq-EXIST_PIECE c = plain_exist c.requires.0 c.if-b-eq-EXIST_PIECE.true

pub returns : goal.returns
returns c = plain_other c.requires.0 c.if-a-eq-ALL_PIECE.false c.if-b-eq-EXIST_PIECE.false
