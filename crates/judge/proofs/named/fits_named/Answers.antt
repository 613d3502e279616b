-- `judge::named::fits_named` meets its contract: by the kind.
use borrow.Author.Rules.{rules}
use Rattle.judge.proofs.Operands.{global_low, fits_global, local_low, fits_local, fits_argument, load_low, fits_load}
use Rattle.judge.proofs.named.fits_named.Goals as goal

pub fits_variable-requires : goal.fits_variable-requires
fits_variable-requires c =
    let low = global_low c.args.expression.now.row_of c.type_of-own.ensures c.global_operand.ensures (search rules) c.global-a.ensures in
    record { a_in_bounds = low.0; b_in_bounds = low.1 }

pub returns-in-Ok-GlobalVariable : goal.returns-in-Ok-GlobalVariable
returns-in-Ok-GlobalVariable c =
    fits_global c.args.expression.now.row_of c.type_of-own.ensures c.global_operand.ensures (search rules) c.global-a.ensures (c.fits_variable.ensures _ c.args.expression.now.row_of.given.values.same)

pub fits_variable-requires-in-Ok-LocalVariable : goal.fits_variable-requires-in-Ok-LocalVariable
fits_variable-requires-in-Ok-LocalVariable c =
    let low = local_low c.args.expression.now.row_of c.type_of-own.ensures c.local_operand.ensures (search rules) c.local-a.ensures in
    record { a_in_bounds = low.0; b_in_bounds = low.1 }

pub returns-in-Ok-LocalVariable : goal.returns-in-Ok-LocalVariable
returns-in-Ok-LocalVariable c =
    fits_local c.args.expression.now.row_of c.type_of-own.ensures c.local_operand.ensures (search rules) c.local-a.ensures (c.fits_variable-in-Ok-LocalVariable.ensures _ c.args.expression.now.row_of.given.values.same)

pub returns-then-is_value : goal.returns-then-is_value
returns-then-is_value c = fits_argument c.args.expression.now.row_of c.type_of-own.ensures c.operand.ensures _ (search rules) c.argument-a.ensures (search rules)

pub returns-else-is_value : goal.returns-else-is_value
returns-else-is_value c = fits_argument c.args.expression.now.row_of c.type_of-own.ensures c.operand.ensures _ (search rules) c.argument-a.ensures (search rules)

pub leads_to-requires : goal.leads_to-requires
leads_to-requires c =
    let low = load_low c.args.expression.now.row_of c.type_of-own.ensures c.expression_operand-pointer.ensures (search rules) in
    record { p_in_bounds = low.0; v_in_bounds = low.1 }

pub returns-then-is_value-2 : goal.returns-then-is_value-2
returns-then-is_value-2 c = fits_load c.args.expression.now.row_of c.type_of-own.ensures c.expression_operand-pointer.ensures (search rules) (search rules)

pub returns-else-is_value-2 : goal.returns-else-is_value-2
returns-else-is_value-2 c = fits_load c.args.expression.now.row_of c.type_of-own.ensures c.expression_operand-pointer.ensures (search rules) (search rules)
