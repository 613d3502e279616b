-- `Subject::unfit_statement` meets its contract. The invariant: the statements below s fit.
use Rattle.judge.proofs.ValueRows.{each_none, each_next}
use Rattle.judge.proofs.Blame.{there_below, unfit-at, unfit-none}
use Rattle.judge.proofs.subject.Subject.unfit_statement.Goals as goal

pub loop-s-init : goal.loop-s-init
loop-s-init c = each_none _

pub fits_statement-requires : goal.fits_statement-requires
fits_statement-requires c =
    record { s_in_bounds = there_below c.statements-n.ensures c.loop-s-test.true }

pub returns-then-not-fits_statement : goal.returns-then-not-fits_statement
returns-then-not-fits_statement c =
    unfit-at _ _ _ c.statements-n.ensures c.loop-s-test.true c.loop-s.invariant c.fits_statement.ensures c.if-not-fits_statement.true

pub loop-s-preserved : goal.loop-s-preserved
loop-s-preserved c = each_next _ c.fits_statement.ensures c.if-not-fits_statement.false c.loop-s.invariant

pub returns : goal.returns
returns c = unfit-none _ _ _ c.statements-n.ensures c.loop-s-test.false c.loop-s.invariant
