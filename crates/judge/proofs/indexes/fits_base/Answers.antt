-- `judge::indexes::fits_base` meets its contract: by whether its base is a path.
use borrow.Author.Rules.{rules}
use Rattle.judge.proofs.Operands.{S}
use Rattle.judge.proofs.IndexRows.{types-low, led_low, base_path, base_value}
use Rattle.judge.proofs.indexes.fits_base.Goals as goal

pub same_index-requires : goal.same_index-requires
same_index-requires c =
    let low = led_low c.args.expression.now.row_of c.requires.le_kind c.requires.kind_bound c.expression_operand-base.ensures c.operand-i.ensures c.type_of-a.ensures c.type_of-b.ensures c.is_path.ensures c.pointee.ensures c.pointee-then-is_path.ensures in
    record { a_in_bounds = low.0; b_in_bounds = low.1 }

pub returns-then-is_path : goal.returns-then-is_path
returns-then-is_path c =
    base_path c.args.expression.now.row_of c.requires.le_kind c.requires.kind_bound c.expression_operand-base.ensures c.operand-i.ensures c.type_of-a.ensures c.type_of-b.ensures c.is_path.ensures c.if-is_path.true c.pointee.ensures c.pointee-then-is_path.ensures (c.same_index.ensures _ c.args.expression.now.row_of.given.values.same)

pub same_index-requires-then-is_value-2 : goal.same_index-requires-then-is_value-2
same_index-requires-then-is_value-2 c =
    let low = types-low c.args.expression.now.row_of c.requires.le_kind c.requires.kind_bound c.expression_operand-base.ensures c.operand-i.ensures c.type_of-a.ensures c.type_of-b.ensures in
    record { a_in_bounds = low.0; b_in_bounds = low.1 }

pub returns-then-is_value-2 : goal.returns-then-is_value-2
returns-then-is_value-2 c =
    let index = c.same_index-then-is_value-2.ensures (S c.args.expression.now.row_of.given) c.args.expression.now.row_of.given.values.same in
    base_value c.args.expression.now.row_of c.requires.le_kind c.requires.kind_bound c.expression_operand-base.ensures c.operand-i.ensures c.type_of-a.ensures c.type_of-b.ensures c.is_path.ensures c.if-is_path.false (search (rules, index))

pub returns-else-is_value-2 : goal.returns-else-is_value-2
returns-else-is_value-2 c =
    base_value c.args.expression.now.row_of c.requires.le_kind c.requires.kind_bound c.expression_operand-base.ensures c.operand-i.ensures c.type_of-a.ensures c.type_of-b.ensures c.is_path.ensures c.if-is_path.false (search rules)
