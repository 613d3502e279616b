-- `Subject::fits_statement` meets its contract: by the kind.
use borrow.Author.Rules.{rules}
use Rattle.module.specs.Decode.{statement_of}
use Rattle.clearance.specs.Judged.{fits_statement}
use Rattle.judge.proofs.StatementRows.{fits_last, fits_unjudged, by-kind, store_low, fits_value, return_low, fits_going}
use Rattle.judge.proofs.subject.Subject.fits_statement.Goals as goal

pub returns-in-Ok-If : goal.returns-in-Ok-If
returns-in-Ok-If c =
    fits_value c.args.self.now.given _ c.requires.s_in_bounds c.statement-row.ensures c.expression_operand-condition.ensures (search rules) c.is_value.ensures

pub returns-in-Ok-Loop : goal.returns-in-Ok-Loop
unfolding statement_of fits_statement
returns-in-Ok-Loop c =
    by-kind c.args.self.now.given _ c.requires.s_in_bounds c.statement-row.ensures 4 (search rules) (search rules)

pub fits_return-requires : goal.fits_return-requires
fits_return-requires c =
    record { maybe_below = return_low c.args.self.now.given _ c.requires.s_in_bounds c.statement-row.ensures (search rules) c.optional_expression-v.ensures }

pub returns-in-Ok-Return : goal.returns-in-Ok-Return
unfolding statement_of fits_statement
returns-in-Ok-Return c =
    by-kind c.args.self.now.given _ c.requires.s_in_bounds c.statement-row.ensures 7 (search rules) (search rules)

pub leads_to-requires : goal.leads_to-requires
leads_to-requires c =
    let low = store_low c.args.self.now.given _ c.requires.s_in_bounds c.statement-row.ensures c.expression_operand-pointer.ensures (search rules) c.expression_operand-value.ensures in
    record { p_in_bounds = low.0; v_in_bounds = low.1 }

pub returns-then-is_value : goal.returns-then-is_value
unfolding statement_of fits_statement
returns-then-is_value c =
    by-kind c.args.self.now.given _ c.requires.s_in_bounds c.statement-row.ensures 12 (search rules) (search rules)

pub returns-else-is_value : goal.returns-else-is_value
unfolding statement_of fits_statement
returns-else-is_value c =
    by-kind c.args.self.now.given _ c.requires.s_in_bounds c.statement-row.ensures 12 (search rules) (search rules)

pub returns-in-Ok : goal.returns-in-Ok
returns-in-Ok c =
    fits_unjudged c.args.self.now.given _ c.requires.s_in_bounds c.statement-row.ensures (search rules) (search rules) (search rules)

pub returns-in-Ok-Emit : goal.returns-in-Ok-Emit
returns-in-Ok-Emit c =
    fits_going c.args.self.now.given _ c.requires.s_in_bounds c.statement-row.ensures (search rules)

pub returns-in-Err : goal.returns-in-Err
returns-in-Err c = fits_last c.args.self.now.given _ c.requires.s_in_bounds c.statement-row.ensures (search rules)
