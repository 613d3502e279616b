-- `arms::visit::mark_statement` meets its contract, answer by answer.
use Rattle.state.proofs.Ends.{passed}
use Rattle.arms.proofs.Marking.{mark_halts, mark_fits, mark_one, mark_none}
use Rattle.arms.proofs.visit.mark_statement.Goals as goal
use Rattle.arms.proofs.visit.mark_statement.Goals.{then-has_mark, else-has_mark}

pub set_mark-requires : goal.set_mark-requires
set_mark-requires c =
    mark_fits _ c.in_ok-a.was c.has_mark.ensures c.if-has_mark.true c.requires c.place-at.ensures

pub returns-in_err-a : goal.returns-in_err-a
returns-in_err-a c = rw (passed c.from_residual.ensures.1) (mark_halts _ c.in_err-a.was)

pub returns : goal.returns
returns c =
    elim c.if-has_mark.branch [
      | then-has_mark w ↦ rw w.open-is (mark_one _ c.in_ok-a.was c.has_mark.ensures w.if-has_mark.true w.place-at.ensures w.set_mark.ensures c.required.ensures)
      | else-has_mark w ↦ rw w.open-is (mark_none _ c.in_ok-a.was c.has_mark.ensures w.if-has_mark.false c.required.ensures)
    ]
