-- `context_bytes::cover::ask` meets its contract: one law for each way.
use Rattle.context_bytes.proofs.Covered.{ask-all, ask_plain, ask_later, ask_passed, ask_here}
use native.Mathlib.Omega.{arith}
use Rattle.context_bytes.proofs.cover.ask.Goals as goal

pub returns-then-n-eq-ALL_PIECE : goal.returns-then-n-eq-ALL_PIECE
returns-then-n-eq-ALL_PIECE c = ask-all _ c.requires.good c.requires.n_bound c.if-n-eq-ALL_PIECE.true

pub returns-then-n-le-EMPTY_PIECE : goal.returns-then-n-le-EMPTY_PIECE
returns-then-n-le-EMPTY_PIECE c = ask_plain _ c.requires.good c.requires.n_bound (omega (arith, c.if-n-le-EMPTY_PIECE.true)) c.if-n-eq-ALL_PIECE.false

pub returns-then-i-x : goal.returns-then-i-x
returns-then-i-x c = ask_later _ c.requires.good c.requires.n_bound c.look-x.ensures c.if-i-x.true

pub returns-then-x-i : goal.returns-then-x-i
returns-then-x-i c = ask_passed _ c.requires.good c.requires.n_bound c.look-x.ensures c.if-x-i.true

pub returns : goal.returns
returns c =
    ask_here _ c.requires.good c.requires.n_bound c.look-x.ensures c.if-i-x.false c.if-x-i.false
