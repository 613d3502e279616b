-- `Subject::judged_expression` meets its contract: by the table, and then by whether it fits.
use Rattle.judge.proofs.Blame.{judged_unsized, judged_fits}
use Rattle.judge.proofs.subject.Subject.judged_expression.Goals as goal

pub returns-then-holds_either : goal.returns-then-holds_either
returns-then-holds_either c =
    judged_unsized c.args.self.now.given c.requires.unsized_table _ c.requires.e_in_bounds c.type_of-own.ensures c.holds_either.ensures c.if-holds_either.true

pub fits_expression-requires : goal.fits_expression-requires
fits_expression-requires c = record { e_in_bounds = c.requires.e_in_bounds }

pub returns : goal.returns
returns c =
    judged_fits c.args.self.now.given c.requires.unsized_table _ c.requires.e_in_bounds c.type_of-own.ensures c.holds_either.ensures c.if-holds_either.false c.fits_expression.ensures
