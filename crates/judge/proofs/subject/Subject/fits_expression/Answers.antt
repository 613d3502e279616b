-- `Subject::fits_expression` meets its contract: by the group of the kind.
use borrow.Author.Rules.{rules}
use Rattle.judge.proofs.Blame.{fits_fixed, fits_last, fits_unjudged}
use Rattle.judge.proofs.subject.Subject.fits_expression.Goals as goal

pub returns-in-Ok-Literal : goal.returns-in-Ok-Literal
returns-in-Ok-Literal c =
    fits_fixed (record { given = c.args.self.now.given; there = c.requires.e_in_bounds; is = c.expression-row.ensures }) (search rules) c.is_value.ensures

pub returns-in-Ok : goal.returns-in-Ok
returns-in-Ok c =
    fits_unjudged (record { given = c.args.self.now.given; there = c.requires.e_in_bounds; is = c.expression-row.ensures }) (search rules) (λ h. search rules) (λ h. search rules) (search rules)

pub returns-in-Err : goal.returns-in-Err
returns-in-Err c =
    fits_last (record { given = c.args.self.now.given; there = c.requires.e_in_bounds; is = c.expression-row.ensures }) (search rules) c.is_value-in-Err.ensures
