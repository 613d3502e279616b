-- `quiet::acts::something` meets its contract.
use borrow.Author.Tests.{eq-eqb}
use Rattle.quiet.proofs.Overlaps.{some-all, some-by, something_is}
use Rattle.quiet.proofs.acts.something.Goals.{then-p-eq-ALL_PIECE, else-p-eq-ALL_PIECE}
use Rattle.quiet.proofs.acts.something.Goals as goal

pub returns : goal.returns
returns c =
    something_is c.then_some.ensures
    (elim c.if-p-eq-ALL_PIECE.branch [
      | then-p-eq-ALL_PIECE w ↦ rw (w.then_some-is, eq-eqb c.args.p 0 w.if-p-eq-ALL_PIECE.true) (some-all w.if-p-eq-ALL_PIECE.true)
      | else-p-eq-ALL_PIECE w ↦ rw w.then_some-is (some-by _ w.if-p-eq-ALL_PIECE.false)
    ])
